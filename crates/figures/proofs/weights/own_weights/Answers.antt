-- `figures::weights::own_weights` meets its contract. The loop's invariant: the parts passed have their own weights.
use Prim.Native.Nat.{◌+◌, ◌*◌, ◌^◌, ◌<◌}
use mathlib.Core.Path.{refl}
use native.Mathlib.Nat.{mul-le-mul}
use native.Mathlib.Omega.{arith}
use Rattle.definitions.specs.Layout.{parts}
use Rattle.laws.proofs.Filled.{filled_none, filled_next, filled_to}
use Rattle.observations.specs.Arrays.{at, prior_at}
use Rattle.figures.proofs.weights.own_weights.Goals as goal
use Rattle.figures.proofs.weights.own_weights.Goals.{In-loop-k}

pub loop-k-init : goal.loop-k-init
loop-k-init c = filled_none 31 0 _

below : (c : In-loop-k) → c.loop-k.k < parts c.args.last
below c = omega (arith, c.loop-k-test.true)

room : (c : In-loop-k) → c.loop-k.k < 31
room c = omega (arith, below c, c.requires.few)

-- prior and observations fit together
fits : (c : In-loop-k) → let k = c.loop-k.k in
    prior_at c.args.weights.now k + at c.args.left.now k * at c.args.weights.now k < 2 ^ 40
fits c =
    let k = c.loop-k.k in
    let observed = mul-le-mul (c.requires.left_few k (below c)) (c.requires.columns_small k (below c)) in
    omega (arith, c.requires.priors_small k (below c))

pub overflow_mul-own : goal.overflow_mul-own
overflow_mul-own c = omega (arith, fits (goal.at.overflow_mul-own c).In-loop-k)

pub loop-k-preserved : goal.loop-k-preserved
loop-k-preserved c =
    let in_loop_k = (goal.at.loop-k-preserved c).In-loop-k in
    filled_next c.loop-k.invariant (room in_loop_k) refl

pub returns : goal.returns
returns c = record { filled = filled_to (omega arith) c.loop-k.invariant }
