-- Specification, "The central ultimate": the expected logarithm of an accident year's ultimate, by Theorem 2.4 of the paper, exact. It is
-- what is paid and still to be paid, and what is incurred and still to come, each weighted by the variance of the other.
use Rattle.std.specs.Prelude.{ℕ, ◌+◌, ◌-◌, ◌<◌, ◌≡◌, ℤ, pos, nat_abs, ◌+ℤ◌, ◌-ℤ◌, ◌*ℤ◌}
use Rattle.std.specs.Int.Signed.{shr_z}
use Rattle.integers.specs.Summation.{sum, total}
use Rattle.definitions.specs.Layout.{Bytes, last_year, psi_index, paid, incurred}
use Rattle.definitions.specs.Observations.{log_of, σ², τ²}
use Rattle.definitions.specs.Loss.{Vector}

-- What it is taken from besides a mean: the logarithms of each accident year's latest amounts, log P_(i,J−i) and log I_(i,J−i), and by
-- development year the variances σ² of Φ and τ² of Ψ.
pub record Latest : Type 0 where
  pub log_paid : ℕ → ℤ
  pub log_incurred : ℕ → ℤ
  pub variance_Φ : ℕ → ℕ
  pub variance_Ψ : ℕ → ℕ

abbrev pub latest_of : Bytes → Latest
latest_of f = record {
  log_paid = λ i. log_of (paid f i (last_year f - i));
  log_incurred = λ i. log_of (incurred f i (last_year f - i));
  variance_Φ = σ² f;
  variance_Ψ = τ² f;
}

-- A figure in ticks, as a fraction: `floor` and `remainder` over `divisor`.
pub record Ultimate : Type 0 where
  pub floor : ℤ
  pub remainder : ℕ
  pub divisor : ℕ

-- What these three are of a numerator, also of one below zero: no others are so, for that divisor.
pub record Divided (numerator : ℤ) (r : Ultimate) : Type 0 where
  pub whole : r.floor *ℤ pos r.divisor +ℤ pos r.remainder ≡ numerator
  pub below : r.remainder < r.divisor

-- of a last development year J and an accident year i of 1..J; k = J − i is the last development year of i that is known
module _ (J : ℕ) (a : Latest) (i : ℕ) where
  -- N: σ²_m for m > k, i of them
  unfoldable pub paid_variance : ℕ
  paid_variance = total i (λ m. a.variance_Φ (J - i + 1 + m))

  -- M: τ²_n for n ≥ k, i of them
  unfoldable pub incurred_variance : ℕ
  incurred_variance = total i (λ n. a.variance_Ψ (J - i + n))

  -- log P_(i,k) + ΣΦ_m for m > k
  unfoldable pub paid_ultimate : Vector → ℤ
  paid_ultimate u = a.log_paid i +ℤ sum i (λ m. u (J - i + 1 + m))

  -- log I_(i,k) + ΣΨ_n for n ≥ k
  unfoldable pub incurred_ultimate : Vector → ℤ
  incurred_ultimate u = a.log_incurred i +ℤ sum i (λ n. u (psi_index J (J - i + n)))

  abbrev pub numerator : Vector → ℤ
  numerator u = pos incurred_variance *ℤ paid_ultimate u +ℤ pos paid_variance *ℤ incurred_ultimate u

  -- N + M
  abbrev pub both_variances : ℕ
  both_variances = paid_variance + incurred_variance

  -- `shr_z` rounds down
  unfoldable pub ultimate_of : Vector → Ultimate
  ultimate_of u =
      let floor = shr_z (numerator u) both_variances in
      record { floor = floor; remainder = nat_abs (numerator u -ℤ floor *ℤ pos both_variances); divisor = both_variances }
