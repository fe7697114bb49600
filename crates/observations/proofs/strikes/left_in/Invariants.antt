-- `observations::strikes::left_in` meets its contract. The loop's invariant: the parts passed are counted.
use Rattle.definitions.specs.Kept.{steps_of}
use Rattle.laws.specs.Filled.{Filled}
use Rattle.observations.specs.Arrays.{unmarked}
use Rattle.observations.proofs.strikes.left_in.Given as goal

abbrev pub invariant-loop-k : goal.invariant-loop-k
invariant-loop-k l = Filled 31 l.k 0 (λ i. unmarked l.struck i (steps_of l.last i)) l.counts
