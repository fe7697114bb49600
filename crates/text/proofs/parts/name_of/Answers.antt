-- The name of a part: phi up to J, psi behind it.
use mathlib.Core.Path.{refl}
use borrow.Author.Tests.{le-leb, lt-leb}
use Rattle.definitions.specs.Words.{tab_from}
use Rattle.definitions.specs.Matrix.{part_by_index}
use Rattle.definitions.specs.Text.{ascii, name_of}
use Rattle.text.proofs.parts.name_of.Goals as goal

pub returns-then-k-last : goal.returns-then-k-last
unfolding part_by_index name_of ascii tab_from
returns-then-k-last c = rw (le-leb _ _ c.if-k-last.true) refl

pub returns-else-k-last : goal.returns-else-k-last
unfolding part_by_index name_of ascii tab_from
returns-else-k-last c = rw (lt-leb _ _ c.if-k-last.false) refl
