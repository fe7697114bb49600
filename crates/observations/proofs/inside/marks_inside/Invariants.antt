-- `observations::inside::marks_inside` meets its contract. The loop's invariant: the marks passed are inside.
use Rattle.laws.specs.Filled.{Filled}
use Rattle.observations.specs.Arrays.{at}
use Rattle.observations.specs.Inside.{mark_within}
use Rattle.observations.proofs.inside.marks_inside.Given as goal

abbrev pub invariant-loop-c : goal.invariant-loop-c
invariant-loop-c l = Filled 496 l.c 0 (λ i. mark_within l.left i (at l.struck i)) l.inside
