-- The contracts of the central ultimate, over the arrays of a session.
use Rattle.std.specs.Prelude.{ℕ, ◌+◌, ◌^◌, ◌≤◌, ◌<◌, ◌≡◌, List, ℤ, pos, nat_abs, ◌+ℤ◌, ◌*ℤ◌}
use Rattle.integers.specs.Sum.{sum, total}
use Rattle.definitions.specs.Words.{part}
use Rattle.definitions.specs.Layout.{parts}
use Rattle.definitions.specs.Refusals.{year_limit, part_limit}
use Rattle.definitions.specs.Ultimate.{Divided, ultimate_of}
use Rattle.definitions.specs.Kept.{latest_in}
use Rattle.scales.specs.declared.Ticks.{Ticks}
use Rattle.scales.specs.declared.Variance.{Variance}
use Rattle.observations.specs.Arrays.{at, brought_within, log_within, observations_at, observed_in}
use Rattle.projecting.specs.declared.Ultimate.{Ultimate}
use Rattle.projecting.specs.declared.central.Side.{Side}
use Rattle.projecting.specs.Projects.{of_ultimate}

-- ---- sums of parts and of variances, `count` of them from `first` on

pub record OfRun (mean : List ℤ) (first count : ℕ) : Type 0 where
  pub inside : first + count ≤ 31
  pub few : count ≤ year_limit
  pub small : (m : ℕ) → m < count → nat_abs (part mean (first + m)) ≤ part_limit

abbrev pub parts_from : List ℤ → ℕ → ℕ → ℤ
parts_from mean first count = sum count (λ m. part mean (first + m))

pub record PartSum (mean : List ℤ) (first count : ℕ) (r : Ticks) : Type 0 where
  pub is : r.0 ≡ parts_from mean first count

abbrev pub variances_from : List ℕ → ℕ → ℕ → ℕ
variances_from variances first count = total count (λ m. brought_within (2 ^ 18) (2 ^ 40) (at variances (first + m)))

pub record VarianceSum (variances : List ℕ) (first count : ℕ) (r : Variance) : Type 0 where
  pub is : r.0 ≡ variances_from variances first count

-- ---- one side of the figure

pub record OfSide (mean : List ℤ) (cell first count : ℕ) : Type 0 where
  pub run : OfRun mean first count
  pub cell_inside : cell < 272

pub record SideOf (mean ticks : List ℤ) (variances : List ℕ) (cell first count : ℕ) (r : Side) : Type 0 where
  pub ultimate : r.ultimate.0 ≡ log_within (part ticks cell) +ℤ parts_from mean first count
  pub variance : r.variance.0 ≡ variances_from variances first count

-- what a side comes to at most
abbrev pub SideSmall : ℤ → List ℤ → ℕ → ℕ → Type 0
SideSmall z mean first count = nat_abs (log_within z +ℤ parts_from mean first count) ≤ 2 ^ 30

-- ---- both sides

pub record OfSides (paid incurred : Side) : Type 0 where
  pub paid_small : nat_abs paid.ultimate.0 ≤ 2 ^ 30
  pub incurred_small : nat_abs incurred.ultimate.0 ≤ 2 ^ 30
  pub some : 1 ≤ paid.variance.0
  pub paid_variance_lem : paid.variance.0 ≤ 2 ^ 44
  pub incurred_variance_lem : incurred.variance.0 ≤ 2 ^ 44

pub record Weighted (paid incurred : Side) (r : Ultimate) : Type 0 where
  pub divided : Divided
      (pos incurred.variance.0 *ℤ paid.ultimate.0 +ℤ pos paid.variance.0 *ℤ incurred.ultimate.0)
      (of_ultimate r)
  pub divisor : r.divisor ≡ paid.variance.0 + incurred.variance.0

-- ---- of an accident year

pub record OfYear (last : ℕ) (mean : List ℤ) (year : ℕ) : Type 0 where
  pub few : last ≤ year_limit
  pub from : 1 ≤ year
  pub to : year ≤ last
  pub small : (k : ℕ) → k < parts last → nat_abs (part mean k) ≤ part_limit

-- whatever weights and marks are kept beside them
pub record CentralOf (last : ℕ) (mean ticks : List ℤ) (variances : List ℕ) (year : ℕ) (r : Ultimate) : Type 0 where
  pub is : (weights struck : List ℕ)
      → of_ultimate r
      ≡ ultimate_of last (latest_in last (observed_in last (observations_at ticks weights variances struck))) year (part mean)
