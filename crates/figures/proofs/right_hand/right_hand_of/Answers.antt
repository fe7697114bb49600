-- `figures::right_hand::right_hand_of` meets its contract. The loop's invariant: the parts passed have their right-hand sides.
use Prim.Native.Nat.{◌<◌}
use mathlib.Core.Path.{◌∙◌}
use native.Mathlib.Omega.{arith}
use lib.IntN.{pos}
use Rattle.laws.proofs.Filled.{filled_none, filled_next, filled_to}
use Rattle.integers.specs.Bits.{same}
use Rattle.figures.proofs.right_hand.right_hand_of.Goals as goal

pub loop-k-init : goal.loop-k-init
loop-k-init c = filled_none 31 (pos 0) _

pub right_hand_at-requires : goal.right_hand_at-requires
right_hand_at-requires c = record { of_targets = c.requires; below = omega (arith, c.loop-k-test.true) }

pub loop-k-preserved : goal.loop-k-preserved
loop-k-preserved c =
    let room : c.loop-k.k < 31 = omega (arith, c.loop-k-test.true, c.requires.few) in
    let target = same c.right_hand_at.result c.right_hand_at.type_inv ∙ c.right_hand_at.ensures in
    filled_next c.loop-k.invariant room target

pub returns : goal.returns
returns c = record { filled = filled_to (omega arith) c.loop-k.invariant }
