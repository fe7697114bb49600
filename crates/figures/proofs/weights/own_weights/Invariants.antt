-- `figures::weights::own_weights` meets its contract. The loop's invariant: the parts passed have their own weights.
use Prim.Native.Nat.{◌+◌, ◌*◌}
use Rattle.laws.specs.Filled.{Filled}
use Rattle.observations.specs.Arrays.{at, prior_at}
use Rattle.figures.proofs.weights.own_weights.Given as goal

abbrev pub invariant-loop-k : goal.invariant-loop-k
invariant-loop-k l = Filled 31 l.k 0 (λ i. prior_at l.weights i + at l.left i * at l.weights i) l.own
