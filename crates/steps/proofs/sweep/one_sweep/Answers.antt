-- `sweep::one_sweep`: the sweep of some parts, of all of them from part 0 on.
use native.Mathlib.Omega.{arith}
use Rattle.steps.specs.Sweep.{years_few, swept_all}
use Rattle.steps.proofs.sweep.one_sweep.Goals as goal

pub overflow_mul-last : goal.overflow_mul-last
overflow_mul-last c = record { fits = omega (arith, years_few c.requires) }

pub overflow_add-last : goal.overflow_add-last
overflow_add-last c = record { fits = omega (arith, years_few c.requires) }

pub returns : goal.returns
returns c = swept_all (omega arith) (omega arith) c.sweep_from.ensures
