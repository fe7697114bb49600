-- What the central ultimate is made of is small enough, and makes the definitions' figure.
use Rattle.std.specs.Prelude.{ℕ, ◌+◌, ◌*◌, ◌-◌, ◌^◌, ◌≤◌, ◌<◌, ◌≡◌, List, ℤ, pos, nat_abs, ◌*ℤ◌}
use Rattle.std.proofs.Math.Path.{sym, ap, ap₂}
use Rattle.std.proofs.Common.{subst, ◌∙◌}
use native.Mathlib.Omega.{arith}
use Rattle.std.proofs.Math.IntN.{◌+ℤ◌}
use Rattle.integers.specs.Size.{nat_abs-+, nat_abs-*-≤}
use Rattle.integers.specs.Sum.{sum_cong}
use Rattle.integers.specs.Total.{total_cong, total_bound, total_term, sum_size}
use Rattle.definitions.specs.Words.{part}
use Rattle.definitions.specs.Layout.{psi_index, cells, row_start}
use Rattle.definitions.specs.Refusals.{part_limit}
use Rattle.definitions.specs.Ultimate.{Latest, paid_variance, incurred_variance, paid_ultimate, incurred_ultimate, both_variances, ultimate_of}
use Rattle.definitions.specs.Kept.{latest_in}
use Rattle.laws.proofs.Cells.{cell_below, cells_few}
use Rattle.observations.proofs.InsideLaws.{log_small}
use Rattle.observations.proofs.KeptLaws.{log_at_lem, variance_at_lem}
use Rattle.laws.proofs.Ultimates.{ultimate_unique}
use Rattle.arithmetic.specs.declared.wide.Wide.{Wide}
use Rattle.arithmetic.specs.Wide.{IsWide, OfSum, OfDivision, value_of}
use Rattle.arithmetic.proofs.WideLaws.{high_at_most}
use Rattle.observations.specs.declared.Observations.{Observations}
use Rattle.observations.specs.Arrays.{at, brought_within, log_within, observations_at, observed_in}
use Rattle.projecting.specs.declared.Ultimate.{Ultimate}
use Rattle.projecting.specs.declared.central.Side.{Side}
use Rattle.projecting.specs.Central.{OfRun, parts_from, variances_from, OfSide, SideOf, SideSmall, OfSides, Weighted, OfYear, CentralOf}
use Rattle.projecting.specs.Projects.{of_ultimate}

-- ---- sums

pub parts_small : {mean : List ℤ} {first count : ℕ} → OfRun mean first count → (n : ℕ) → n ≤ count
    → nat_abs (parts_from mean first n) ≤ n * part_limit
parts_small {mean} {first} h n few =
    omega (arith, sum_size n (λ m. part mean (first + m)), total_bound n part_limit (λ m below. h.small m (omega arith)))

pub variances_small : (variances : List ℕ) (first n : ℕ) → variances_from variances first n ≤ n * 2 ^ 40
variances_small variances first n = total_bound n (2 ^ 40) (λ m below. omega arith)

pub variances_some : (variances : List ℕ) (first n : ℕ) → 1 ≤ n → 1 ≤ variances_from variances first n
variances_some variances first n some =
    omega (arith, total_term n 0 (λ m. brought_within (2 ^ 18) (2 ^ 40) (at variances (first + m))) some)

-- ---- one side

pub side_small : (z : ℤ) {mean : List ℤ} {cell first count : ℕ} → OfSide mean cell first count → SideSmall z mean first count
side_small z {mean} {cell} {first} {count} h =
    omega (
      arith,
      nat_abs-+ (log_within z) (parts_from mean first count),
      log_small z,
      parts_small h.run count (omega arith),
      h.run.few,
    )

pub side_at : {mean ticks : List ℤ} {variances : List ℕ} {cell other first count : ℕ} {r : Side} → cell ≡ other
    → SideOf mean ticks variances cell first count r → SideOf mean ticks variances other first count r
side_at {mean} {ticks} {variances} {cell} {other} {first} {count} {r} same h =
    subst (λ c. SideOf mean ticks variances c first count r) same h

-- ---- both sides

module _ {paid incurred : Side} (h : OfSides paid incurred) where
  abbrev M : ℕ
  M = incurred.variance.0

  abbrev N : ℕ
  N = paid.variance.0

  abbrev pub weighted_sum : ℤ
  weighted_sum = pos M *ℤ paid.ultimate.0 +ℤ pos N *ℤ incurred.ultimate.0

  module _ {x y : Wide} (x_is : IsWide (pos M *ℤ paid.ultimate.0) x) (y-is : IsWide (pos N *ℤ incurred.ultimate.0) y) where
    paid_size : nat_abs (pos M *ℤ paid.ultimate.0) ≤ M * 2 ^ 30
    paid_size = nat_abs-*-≤ (pos M) paid.ultimate.0 (omega arith) h.paid_small

    incurred_size : nat_abs (pos N *ℤ incurred.ultimate.0) ≤ N * 2 ^ 30
    incurred_size = nat_abs-*-≤ (pos N) incurred.ultimate.0 (omega arith) h.incurred_small

    pub sum_asked : OfSum x y
    sum_asked = record {
      x_low = x_is.low_small;
      y_low = y-is.low_small;
      high_small = omega (
        arith,
        high_at_most x_is (2 ^ 44) (omega (arith, paid_size, h.incurred_variance_lem)),
        high_at_most y-is (2 ^ 44) (omega (arith, incurred_size, h.paid_variance_lem)),
      );
    }

    numerator_is : {z : Wide} → IsWide (value_of x +ℤ value_of y) z → IsWide weighted_sum z
    numerator_is {z} z-is = subst (λ n. IsWide n z) (ap₂ ◌+ℤ◌ x_is.value y-is.value) z-is

    pub division_asked : {z : Wide} → IsWide (value_of x +ℤ value_of y) z → OfDivision z (N + M)
    division_asked {z} z-is =
        let size = nat_abs-+ (pos M *ℤ paid.ultimate.0) (pos N *ℤ incurred.ultimate.0) in
        let high = high_at_most (numerator_is z-is) (N + M) (omega (arith, size, paid_size, incurred_size)) in
        record {
          of_word = record {
            some = omega (arith, h.some);
            divisor_small = omega (arith, h.paid_variance_lem, h.incurred_variance_lem);
            small = omega (arith, high, h.paid_variance_lem, h.incurred_variance_lem);
          };
          low_small = z-is.low_small;
          floor_small = omega (arith, high, h.some);
        }

    pub value_is : {z : Wide} → IsWide (value_of x +ℤ value_of y) z → value_of z ≡ weighted_sum
    value_is z-is = (numerator_is z-is).value

-- ---- what a session keeps

module _ (J : ℕ) (o : Observations) where
  -- whatever its arrays hold, some variance is to come
  pub divisor_some : (year : ℕ) → 1 ≤ year → year ≤ J → 0 < both_variances J (latest_in J (observed_in J o)) year
  unfolding paid_variance
  divisor_some year from to =
      omega (
        arith,
        total_term year 0 (λ m. at (observed_in J o).variances (J - year + 1 + m)) from,
        variance_at_lem J o (J - year + 1 + 0) (omega arith),
      )

-- ---- of an accident year

module _ {J : ℕ} {mean : List ℤ} {year : ℕ} (h : OfYear J mean year) where
  abbrev k : ℕ
  k = J - year

  abbrev cell : ℕ
  cell = row_start J year + k

  cell_there : cell < cells J
  cell_there = cell_below J year k (omega (arith, h.to))

  pub paid_asked : OfSide mean cell (k + 1) year
  paid_asked = record {
    run = record {
      inside = omega (arith, h.few, h.to);
      few = omega (arith, h.few, h.to);
      small = λ m below. h.small (k + 1 + m) (omega (arith, h.to));
    };
    cell_inside = omega (arith, cell_there, cells_few J h.few);
  }

  pub incurred_asked : OfSide mean (cells J + cell) (J + 1 + k) year
  incurred_asked = record {
    run = record {
      inside = omega (arith, h.few, h.to);
      few = omega (arith, h.few, h.to);
      small = λ m below. h.small (J + 1 + k + m) (omega (arith, h.to));
    };
    cell_inside = omega (arith, cell_there, cells_few J h.few);
  }

  module _ {ticks : List ℤ} {variances : List ℕ} {paid incurred : Side} (p : SideOf mean ticks variances cell (k + 1) year paid)
      (i : SideOf mean ticks variances (cells J + cell) (J + 1 + k) year incurred) where
    pub sides_asked : OfSides paid incurred
    sides_asked = record {
      paid_small = rw p.ultimate (side_small (part ticks cell) paid_asked);
      incurred_small = rw i.ultimate (side_small (part ticks (cells J + cell)) incurred_asked);
      some = rw p.variance (variances_some variances (k + 1) year h.from);
      paid_variance_lem = omega (arith, p.variance, variances_small variances (k + 1) year, h.few, h.to);
      incurred_variance_lem = omega (arith, i.variance, variances_small variances (J + 1 + k) year, h.few, h.to);
    }

    module _ (weights struck : List ℕ) where
      abbrev o : Observations
      o = observations_at ticks weights variances struck

      abbrev a : Latest
      a = latest_in J (observed_in J o)

      further : (n : ℕ) → J + 1 + k + n ≡ psi_index J (k + n)
      further n = omega arith

      paid_variance_is : paid.variance.0 ≡ paid_variance J a year
      unfolding paid_variance
      paid_variance_is = p.variance ∙ sym (total_cong year (λ m below. variance_at_lem J o (k + 1 + m) (omega (arith, h.to))))

      incurred_variance_is : incurred.variance.0 ≡ incurred_variance J a year
      unfolding incurred_variance
      incurred_variance_is = i.variance ∙ total_cong year (λ n below.
          ap (λ l. brought_within (2 ^ 18) (2 ^ 40) (at variances l)) (further n)
          ∙ sym (variance_at_lem J o (psi_index J (k + n)) (omega (arith, h.to))))

      paid_ultimate_is : paid.ultimate.0 ≡ paid_ultimate J a year (part mean)
      unfolding paid_ultimate
      paid_ultimate_is = p.ultimate ∙ ap (λ z. z +ℤ parts_from mean (k + 1) year) (sym (log_at_lem J o cell (omega (arith, cell_there))))

      incurred_ultimate_is : incurred.ultimate.0 ≡ incurred_ultimate J a year (part mean)
      unfolding incurred_ultimate
      incurred_ultimate_is = i.ultimate ∙ ap₂ ◌+ℤ◌
          (sym (log_at_lem J o (cells J + cell) (omega (arith, cell_there))))
          (sum_cong year (λ n below. ap (part mean) (further n)))

      pub central_is : {r : Ultimate} → Weighted paid incurred r → of_ultimate r ≡ ultimate_of J a year (part mean)
      central_is {r} w =
          let d_is : r.divisor ≡ both_variances J a year = w.divisor ∙ ap₂ ◌+◌ paid_variance_is incurred_variance_is in
          ap (λ d. record { floor = r.floor; remainder = r.remainder; divisor = d }) d_is
          ∙ ultimate_unique J a year (part mean) (record {
            whole =
                ap (λ d. r.floor *ℤ pos d +ℤ pos r.remainder) (sym d_is)
                ∙ w.divided.whole
                ∙ ap₂ ◌+ℤ◌
                (ap₂ (λ v z. pos v *ℤ z) incurred_variance_is paid_ultimate_is)
                (ap₂ (λ v z. pos v *ℤ z) paid_variance_is incurred_ultimate_is);
            below = subst (λ d. r.remainder < d) d_is w.divided.below;
          })

    pub central_of : {r : Ultimate} → Weighted paid incurred r → CentralOf J mean ticks variances year r
    central_of w = record { is = λ weights struck. central_is weights struck w }
