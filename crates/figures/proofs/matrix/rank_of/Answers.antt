-- `figures::matrix::rank_of` meets its contract: an index up to J is a Φ, and one above is a Ψ.
use mathlib.Core.Path.{sym}
use Rattle.figures.specs.EntryLaws.{rank_phi, rank_psi}
use Rattle.figures.proofs.matrix.rank_of.Goals as goal

pub returns-then-k-years : goal.returns-then-k-years
returns-then-k-years c = sym (rank_phi c.args.last c.args.k c.if-k-years.true)

pub returns-else-k-years : goal.returns-else-k-years
returns-else-k-years c = sym (rank_psi c.args.last c.args.k c.if-k-years.false)
