-- `observations::inside::ticks_inside` meets its contract. The loop's invariant: the numbers passed are inside.
use lib.IntN.{pos}
use Rattle.definitions.specs.Words.{part}
use Rattle.laws.specs.Filled.{Filled}
use Rattle.observations.specs.Inside.{tick_within}
use Rattle.observations.proofs.inside.ticks_inside.Given as goal

abbrev pub invariant-loop-c : goal.invariant-loop-c
invariant-loop-c l = Filled 303 l.c (pos 0) (λ i. tick_within i (part l.ticks i)) l.inside
