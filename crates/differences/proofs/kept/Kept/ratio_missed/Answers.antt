-- `ratio_missed` meets its contract: weight times difference of what is kept of the ratio.
use Prim.Native.Nat.{ℕ, ◌+◌, ◌-◌, ◌^◌, ◌≤◌, ◌<◌}
use mathlib.Core.Path.{◌≡◌, sym, ap, ap₂, subst, ◌∙◌}
use mathlib.Core.List.{List, []}
use native.Mathlib.Omega.{arith}
use lib.IntN.{ℤ, pos, nat_abs, ◌-ℤ◌, ◌*ℤ◌}
use mir.Syntax.{w64}
use mir.Val.{Fits}
use Rattle.std.proofs.Common.{rules}
use Rattle.integers.specs.Bits.{stored, same}
use Rattle.integers.specs.Size.{fits, kept}
use Rattle.definitions.specs.Words.{part}
use Rattle.definitions.specs.Layout.{cells, row_start}
use Rattle.definitions.specs.Observations.{Chain}
use Rattle.definitions.specs.Loss.{ratio}
use Rattle.laws.proofs.Cells.{cell_below, cells_few}
use Rattle.row_starts.specs.Starts.{starts_at}
use Rattle.observations.specs.declared.Observations.{Observations}
use Rattle.observations.specs.Arrays.{observations_at}
use Rattle.observations.specs.Arrays as Arrays
use Rattle.differences.specs.Differences.{left_in, log_at}
use Rattle.differences.proofs.DifferenceLaws.{ratio_weight_is, last_ratio_is, last_ratio_small, ratio_small, ratio_is}
use Rattle.differences.proofs.kept.Kept.ratio_missed.Goals as goal
use Rattle.differences.proofs.kept.Kept.ratio_missed.Goals.{After-cells_of-cells, After-struct_told-2-1}

module _ (c : After-cells_of-cells) where
  abbrev J : ℕ
  J = c.args.self.now.last

  abbrev mean : List ℤ
  mean = c.args.mean.now

  abbrev d : ℕ
  d = c.args.d

  abbrev o : List ℕ → List ℕ → Observations
  o variances struck = observations_at c.args.self.now.ticks.now c.args.self.now.weights.now variances struck

  years : J ≤ 15
  years = c.args.self.now.few

  more : d < J
  more = c.requires.below

  abbrev cell : ℕ
  cell = Arrays.at c.args.self.now.starts (J - d) + d

  cell_is : cell ≡ row_start J (J - d) + d
  cell_is = ap (λ n. n + d) (starts_at c.args.self.now.starts_are (J - d) (omega arith) years)

  block_is : c.cells_of-cells.result ≡ cells J
  block_is = c.cells_of-cells.ensures

  cell_inside : cell < cells J
  cell_inside = omega (arith, cell_is, cell_below J (J - d) d (omega (arith, more)))

  in_array : c.cells_of-cells.result + cell < 272
  in_array = omega (arith, cell_inside, block_is, cells_few J years)

pub overflow_add-at : goal.overflow_add-at
overflow_add-at c =
    let read = (goal.at.overflow_add-at c).After-cells_of-cells in
    subst (Fits w64) (sym (cell_is read)) (record { fits = omega (arith, in_array read, cell_is read) })

pub overflow_add-cells : goal.overflow_add-cells
overflow_add-cells c = omega (arith, in_array (goal.at.overflow_add-cells c).After-cells_of-cells)

pub kept_logarithm-incurred-requires : goal.kept_logarithm-incurred-requires
kept_logarithm-incurred-requires c = in_array (goal.at.kept_logarithm-incurred-requires c).After-cells_of-cells

pub kept_logarithm-paid-requires : goal.kept_logarithm-paid-requires
kept_logarithm-paid-requires c = omega (arith, in_array (goal.at.kept_logarithm-paid-requires c).After-cells_of-cells)

pub kept_ratio_weight-weight-requires : goal.kept_ratio_weight-weight-requires
kept_ratio_weight-weight-requires c =
    let read = (goal.at.kept_ratio_weight-weight-requires c).After-cells_of-cells in
    omega (arith, more read, years read)

pub ratio_of-requires : goal.ratio_of-requires
ratio_of-requires c =
    let read = (goal.at.ratio_of-requires c).After-cells_of-cells in
    record { few = years read; below = more read; small = c.requires.small }

-- the weight, the ratio of the mean and that of the amounts, as they are read
module _ (c : After-struct_told-2-1) (variances struck : List ℕ) where
  abbrev read : After-cells_of-cells
  read = (goal.at.overflow_sub-incurred c).After-cells_of-cells

  abbrev left : Chain
  left = left_in (J read) (o read variances struck)

  abbrev log : ℕ → ℤ
  log = log_at c.args.self.now.ticks.now

  weight_is : c.kept_ratio_weight-weight.result.0 ≡ left.g (d read)
  weight_is = c.kept_ratio_weight-weight.ensures ∙ ratio_weight_is (J read) (o read variances struck) (d read) (more read)

  mean_ratio_is : stored c.ratio_of.result ≡ ratio left (part (mean read)) (J read - d read)
  mean_ratio_is =
      same _ c.ratio_of.type_inv ∙ c.ratio_of.ensures ∙ ratio_is (J read) (o read variances struck) (mean read) (d read) (more read)

  -- of the last amounts of accident year J − d
  last_ratio_lem : stored c.kept_logarithm-incurred.result.0 -ℤ stored c.kept_logarithm-paid.result.0
      ≡ left.y (J read - d read)
  last_ratio_lem =
      ap₂ ◌-ℤ◌
      (same c.kept_logarithm-incurred.result.0 (search rules) ∙ c.kept_logarithm-incurred.ensures)
      (same c.kept_logarithm-paid.result.0 (search rules) ∙ c.kept_logarithm-paid.ensures)
      ∙ ap₂ (λ m n. log (m + n) -ℤ log n) (block_is read) (cell_is read)
      ∙ last_ratio_is (J read) (o read variances struck) (d read) (more read)

  last_small : nat_abs (left.y (J read - d read)) ≤ 2 ^ 26
  last_small = last_ratio_small (J read) (o read variances struck) (years read) (d read) (more read)

pub overflow_sub-incurred : goal.overflow_sub-incurred
overflow_sub-incurred c = fits (last_ratio_lem c [] []) (omega (arith, last_small c [] []))

pub weighed-requires : goal.weighed-requires
weighed-requires c =
    let read = (goal.at.weighed-requires c).After-cells_of-cells in
    record {
      light = omega (arith, c.kept_ratio_weight-weight.ensures);
      part_small = rw (same _ c.ratio_of.type_inv ∙ c.ratio_of.ensures)
          (omega (
            arith,
            ratio_small (J read) (mean read) c.requires.small (d read) (J read - d read)
                (omega (arith, more read)),
            years read,
          ));
      observed_small = rw (kept w64 (last_ratio_lem c [] []) (omega (arith, last_small c [] []))) (last_small c [] []);
    }

pub returns : goal.returns
returns c =
    let differ = (goal.at.returns c).After-struct_told-2-1 in
    record {
      is = λ variances struck.
          same _ c.weighed.type_inv
          ∙ c.weighed.ensures
          ∙ ap₂ (λ w z. pos w *ℤ z) (weight_is differ variances struck)
          (ap₂ ◌-ℤ◌ (mean_ratio_is differ variances struck)
          (kept w64 (last_ratio_lem differ variances struck) (omega (arith, last_small differ variances struck))));
    }
