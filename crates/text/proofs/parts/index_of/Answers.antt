-- The index of a part: that of phi up to J, that of psi behind it.
use mathlib.Core.Path.{refl}
use borrow.Author.Tests.{le-leb, lt-leb}
use Rattle.definitions.specs.Matrix.{part_by_index}
use Rattle.definitions.specs.Text.{index_of}
use Rattle.text.proofs.parts.index_of.Goals as goal

pub returns-then-k-last : goal.returns-then-k-last
unfolding part_by_index index_of
returns-then-k-last c = rw (le-leb _ _ c.if-k-last.true) refl

pub returns-else-k-last : goal.returns-else-k-last
unfolding part_by_index index_of
returns-else-k-last c = rw (lt-leb _ _ c.if-k-last.false) refl
