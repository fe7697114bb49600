-- `observations::inside::weights_inside` meets its contract. The loop's invariant: the weights passed are inside.
use mathlib.Core.Path.{ap₂, ◌∙◌}
use native.Mathlib.Omega.{arith}
use Rattle.laws.proofs.Filled.{filled_none, filled_next, filled_to}
use Rattle.observations.specs.Arrays.{at, brought_within}
use Rattle.observations.proofs.InsideLaws.{least_to_most}
use Rattle.observations.proofs.inside.weights_inside.Goals as goal

pub loop-c-init : goal.loop-c-init
loop-c-init c = filled_none 77 0 _

pub brought_within-requires : goal.brought_within-requires
brought_within-requires c =
    omega (arith, c.least_weight.ensures, c.most_weight.ensures, least_to_most c.args.n c.loop-c.c)

pub loop-c-preserved : goal.loop-c-preserved
loop-c-preserved c =
    let v = at c.args.weights.now c.loop-c.c in
    filled_next c.loop-c.invariant (omega arith)
    (c.brought_within.ensures ∙ ap₂ (λ lo hi. brought_within lo hi v) c.least_weight.ensures c.most_weight.ensures)

pub returns : goal.returns
returns c = record { filled = filled_to (omega arith) c.loop-c.invariant }
