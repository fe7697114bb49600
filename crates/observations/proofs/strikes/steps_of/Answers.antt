-- `observations::strikes::steps_of` meets its contract: an index up to J is a Φ, and one above is a Ψ.
use mathlib.Core.Path.{sym}
use Rattle.laws.proofs.Marks.{steps_phi, steps_psi}
use Rattle.observations.proofs.strikes.steps_of.Goals as goal

pub returns-then-k-years : goal.returns-then-k-years
returns-then-k-years c = sym (steps_phi c.args.last c.args.k c.if-k-years.true)

pub returns-else-k-years : goal.returns-else-k-years
returns-else-k-years c = sym (steps_psi c.args.last c.args.k c.if-k-years.false)
