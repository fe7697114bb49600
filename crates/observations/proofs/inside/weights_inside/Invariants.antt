-- `observations::inside::weights_inside` meets its contract. The loop's invariant: the weights passed are inside.
use Rattle.laws.specs.Filled.{Filled}
use Rattle.observations.specs.Arrays.{at}
use Rattle.observations.specs.Inside.{weight_within}
use Rattle.observations.proofs.inside.weights_inside.Given as goal

abbrev pub invariant-loop-c : goal.invariant-loop-c
invariant-loop-c l = Filled 77 l.c 0 (λ i. weight_within l.n i (at l.weights i)) l.inside
