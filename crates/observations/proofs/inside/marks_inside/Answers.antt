-- `observations::inside::marks_inside` meets its contract. The loop's invariant: the marks passed are inside.
use native.Mathlib.Omega.{arith}
use Rattle.laws.proofs.Filled.{filled_none, filled_next, filled_to}
use Rattle.observations.proofs.inside.marks_inside.Goals as goal

pub loop-c-init : goal.loop-c-init
loop-c-init c = filled_none 496 0 _

pub loop-c-preserved : goal.loop-c-preserved
loop-c-preserved c = filled_next c.loop-c.invariant (omega arith) c.mark_within.ensures

pub returns : goal.returns
returns c = record { filled = filled_to (omega arith) c.loop-c.invariant }
