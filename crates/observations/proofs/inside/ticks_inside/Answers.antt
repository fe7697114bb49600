-- `observations::inside::ticks_inside` meets its contract. The loop's invariant: the numbers passed are inside.
use mathlib.Core.Path.{ap, ◌∙◌}
use native.Mathlib.Omega.{arith}
use lib.IntN.{pos}
use Rattle.std.proofs.Common.{rules}
use Rattle.integers.specs.Bits.{same}
use Rattle.definitions.specs.Words.{part}
use Rattle.laws.proofs.Filled.{filled_none, filled_next, filled_to}
use Rattle.observations.specs.Inside.{tick_within}
use Rattle.observations.proofs.inside.ticks_inside.Goals as goal

pub loop-c-init : goal.loop-c-init
loop-c-init c = filled_none 303 (pos 0) _

pub loop-c-preserved : goal.loop-c-preserved
loop-c-preserved c =
    let z = part c.args.ticks.now c.loop-c.c in
    filled_next c.loop-c.invariant (omega arith)
    (same c.tick_within.result c.tick_within.type_inv ∙ c.tick_within.ensures ∙ ap (tick_within c.loop-c.c) (same z (search rules)))

pub returns : goal.returns
returns c = record { filled = filled_to (omega arith) c.loop-c.invariant }
