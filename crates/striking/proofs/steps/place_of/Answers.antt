-- `striking::steps::place_of` meets its contract: the part's marks stand one behind another.
use Prim.Native.Nat.{◌+◌, ◌*◌}
use mathlib.Core.Path.{ap}
use native.Mathlib.Omega.{arith}
use Rattle.striking.proofs.StepLaws.{mark_inside}
use Rattle.striking.proofs.steps.place_of.Goals as goal

pub overflow_mul-result : goal.overflow_mul-result
overflow_mul-result c = omega (arith, c.part_of.ensures, mark_inside c.requires)

pub overflow_add-result : goal.overflow_add-result
overflow_add-result c = omega (arith, c.part_of.ensures, mark_inside c.requires)

pub returns : goal.returns
returns c = ap (λ k. 16 * k + c.args.year) c.part_of.ensures
