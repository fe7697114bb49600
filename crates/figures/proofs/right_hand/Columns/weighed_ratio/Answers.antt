-- `figures::right_hand::Columns::weighed_ratio` meets its contract: neither the difference nor the product wraps.
use Prim.Native.Nat.{ℕ, ◌+◌, ◌*◌, ◌-◌, ◌^◌, ◌≤◌, ◌<◌}
use mathlib.Core.Path.{◌≡◌, refl, ap, ap₂, ◌∙◌}
use mathlib.Core.List.{List}
use native.Mathlib.Omega.{arith}
use lib.IntN.{ℤ, pos, nat_abs, ◌-ℤ◌, ◌*ℤ◌}
use mir.Syntax.{w64}
use mir.Val.{to_z}
use Rattle.integers.specs.Size.{fits, kept}
use Rattle.integers.specs.Size.{nat_abs-*-≤}
use Rattle.definitions.specs.Words.{part}
use Rattle.definitions.specs.Layout.{cells}
use Rattle.integers.specs.Bits.{stored, read}
use Rattle.observations.specs.Arrays
use Rattle.figures.specs.Sums.{Logs, last_cell, ratio_of}
use Rattle.figures.specs.SumLaws.{row_at, last_cell_below, ratio_of_small}
use mir.Facts.{to_z_pos}
use Rattle.figures.proofs.right_hand.Columns.weighed_ratio.Goals as goal
use Rattle.figures.proofs.right_hand.Columns.weighed_ratio.Goals.{After-cells_of-cells}

-- the weight and logarithms, as they are read
module _ (c : After-cells_of-cells) where
  abbrev d : ℕ
  d = c.args.d

  abbrev J : ℕ
  J = c.args.self.now.last

  abbrev at : ℕ
  at = Arrays.at c.args.self.now.starts (J - d) + d

  abbrev cell : ℕ
  cell = c.cells_of-cells.result

  abbrev weight : ℕ → ℕ
  weight = Arrays.ratio_at c.args.weights.now

  abbrev logs : List ℤ
  logs = c.args.self.now.ticks.now

  abbrev small : Logs logs J
  small = c.requires.of_ratios.of_rows.logs_small

  abbrev term : ℕ → ℤ
  term y = pos (weight y) *ℤ ratio_of logs J y

  more : d < J
  more = c.requires.below

  at_is : at ≡ last_cell J d
  at_is = ap (λ n. n + d) (row_at c.requires.of_ratios.of_rows (J - d) (omega arith))

  cell_is : cell ≡ cells J
  cell_is = c.cells_of-cells.ensures

  inside : at < cells J
  inside = omega (arith, at_is, last_cell_below J d (omega (arith, more)))

  weight_small : weight d ≤ 2 ^ 27
  weight_small = c.requires.of_ratios.weights_small d more

  log_at_lem : (n : ℕ) → n < 2 * cells J → stored (part logs n) ≡ part logs n
  log_at_lem n below = read (part logs n) (omega (arith, small.small n below))

  -- the ratio as it is read
  abbrev read_ratio : ℤ
  read_ratio = stored (part logs (cell + at)) -ℤ stored (part logs at)

  ratio : read_ratio ≡ ratio_of logs J d
  ratio =
      ap₂ ◌-ℤ◌ (log_at_lem (cell + at) (omega (arith, inside, cell_is))) (log_at_lem at (omega (arith, inside)))
      ∙ ap₂ (λ m n. part logs (m + n) -ℤ part logs n) cell_is at_is

  ratio_small : nat_abs (ratio_of logs J d) < 2 ^ 63
  ratio_small = omega (arith, ratio_of_small logs J d small (omega (arith, more)))

  product : to_z w64 (weight d) *ℤ stored read_ratio ≡ term d
  product = ap₂ ◌*ℤ◌ (to_z_pos w64 (omega (arith, weight_small))) (kept w64 ratio ratio_small)

  product_small : nat_abs (term d) < 2 ^ 63
  product_small = omega (arith, nat_abs-*-≤ (pos (weight d)) (ratio_of logs J d) weight_small (ratio_of_small logs J d small (omega (arith, more))))

pub overflow_cast-result : goal.overflow_cast-result
overflow_cast-result c = fits refl (omega (arith, weight_small (goal.at.overflow_cast-result c).After-cells_of-cells))

pub overflow_sub-result : goal.overflow_sub-result
overflow_sub-result c =
    let read = (goal.at.overflow_sub-result c).After-cells_of-cells in
    fits (ratio read) (ratio_small read)

pub overflow_mul-result : goal.overflow_mul-result
overflow_mul-result c =
    let read = (goal.at.overflow_mul-result c).After-cells_of-cells in
    fits (product read) (product_small read)

pub returns : goal.returns
returns c =
    let read = (goal.at.returns c).After-cells_of-cells in
    kept w64 (product read) (product_small read)
