-- `observations::logarithms::read_logarithms` meets its contract. The loops' invariant: the cells passed have the logarithms of their amounts.
use Prim.Native.Nat.{◌*◌, ◌≤◌, ◌<◌}
use mathlib.Core.Path.{◌≡◌, ap, ◌∙◌}
use native.Mathlib.Omega.{arith}
use lib.IntN.{pos}
use Rattle.definitions.specs.Layout.{last_year, cells}
use Rattle.definitions.specs.Logarithm.{logarithm}
use Rattle.laws.proofs.Cells.{cells_few}
use Rattle.integers.specs.Bits.{same}
use Rattle.observations.proofs.ReadLaws.{cells_none, cells_next, cells_to}
use Rattle.observations.proofs.logarithms.read_logarithms.Goals as goal
use Rattle.observations.proofs.logarithms.read_logarithms.Goals.{After-cells_of-count, In-loop-c}

-- the count is the file's, and fits the array
module _ (c : After-cells_of-count) where
  count_is : c.cells_of-count.result ≡ cells (last_year c.args.file.now)
  count_is = c.cells_of-count.ensures ∙ ap cells c.last_year.ensures

  count_few : 2 * c.cells_of-count.result ≤ 272
  count_few = omega (arith, count_is, cells_few (last_year c.args.file.now) c.requires.whole.high)

pub loop-n-init : goal.loop-n-init
loop-n-init c = cells_none c.requires.long

pub four_cells-requires : goal.four_cells-requires
four_cells-requires c =
    record {
      whole = c.requires.whole;
      more = omega (arith, count_is (goal.at.four_cells-requires c).After-cells_of-count);
      so_far = c.loop-n.invariant;
    }

pub loop-n-preserved : goal.loop-n-preserved
loop-n-preserved c = cells_to (omega arith) c.four_cells.ensures

pub loop-c-init : goal.loop-c-init
loop-c-init c = cells_to (omega arith) c.loop-n.invariant

in_array : (c : In-loop-c) → c.loop-c.c < 272
in_array c = omega (arith, count_few (goal.at.amount_of-requires c).After-cells_of-count)

pub amount_of-requires : goal.amount_of-requires
amount_of-requires c =
    (c.requires.whole, omega (arith, count_is (goal.at.amount_of-requires c).After-cells_of-count))

pub loop-c-preserved : goal.loop-c-preserved
loop-c-preserved c =
    let log = c.logarithm_of.ensures ∙ ap (λ a. pos (logarithm a)) c.amount_of.ensures in
    let kept = same c.logarithm_of.result.0 c.struct_told-1.given.0.1 in
    cells_next c.loop-c.invariant (in_array (goal.at.loop-c-preserved c).In-loop-c) (kept ∙ log)

pub returns : goal.returns
returns c =
    record { all = cells_to (omega (arith, count_is (goal.at.returns c).After-cells_of-count)) c.loop-c.invariant }
