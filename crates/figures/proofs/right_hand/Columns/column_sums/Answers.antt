-- `figures::right_hand::Columns::column_sums` meets its contract. The loop's invariant: the parts passed have their sums.
use Prim.Native.Nat.{◌<◌}
use mathlib.Core.Path.{◌∙◌}
use native.Mathlib.Omega.{arith}
use lib.IntN.{pos}
use Rattle.laws.proofs.Filled.{filled_none, filled_next, filled_to}
use Rattle.integers.specs.Bits.{same}
use Rattle.figures.proofs.right_hand.Columns.column_sums.Goals as goal

pub loop-k-init : goal.loop-k-init
loop-k-init c = filled_none 31 (pos 0) _

pub column_sum-requires : goal.column_sum-requires
column_sum-requires c = record { of_rows = c.args.self.now.of_rows; below = omega (arith, c.loop-k-test.true) }

pub loop-k-preserved : goal.loop-k-preserved
loop-k-preserved c =
    let room : c.loop-k.k < 31 = omega (arith, c.loop-k-test.true, c.args.self.now.of_rows.logs_small.few) in
    filled_next c.loop-k.invariant room (same c.column_sum.result c.column_sum.type_inv ∙ c.column_sum.ensures)

pub returns : goal.returns
returns c = record { filled = filled_to (omega arith) c.loop-k.invariant }
