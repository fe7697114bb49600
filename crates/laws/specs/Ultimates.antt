-- The central ultimate: the three numbers that answer it are those of its numerator and no others, for every accepted file; its divisor is
-- the variance that the weight g of the year's ratio is made of; and only latest amounts, variances and parts that exist count.
use Rattle.std.specs.Prelude.{ℕ, ◌-◌, ◌≤◌, ◌<◌, ◌≡◌, ℤ}
use Rattle.definitions.specs.Layout.{Bytes, last_year}
use Rattle.definitions.specs.Loss.{Vector}
use Rattle.definitions.specs.Observations.{ratio_variance}
use Rattle.definitions.specs.Ultimate.{Latest, latest_of, Ultimate, Divided, numerator, both_variances, ultimate_of}

abbrev pub of : ℤ → ℕ → ℕ → Ultimate
of floor remainder divisor = record { floor = floor; remainder = remainder; divisor = divisor }

-- the same latest amounts and variances, as far as they exist
pub record SameLatest (J : ℕ) (a b : Latest) : Type 0 where
  pub log_paid : (i : ℕ) → i ≤ J → a.log_paid i ≡ b.log_paid i
  pub log_incurred : (i : ℕ) → i ≤ J → a.log_incurred i ≡ b.log_incurred i
  pub variance_Φ : (m : ℕ) → m ≤ J → a.variance_Φ m ≡ b.variance_Φ m
  pub variance_Ψ : (n : ℕ) → n < J → a.variance_Ψ n ≡ b.variance_Ψ n

-- where some variance is to come, the three numbers are those of the numerator
abbrev pub UltimateDivided : ℕ → Latest → ℕ → Vector → Type 0
UltimateDivided J a i u = 0 < both_variances J a i → Divided (numerator J a i u) (ultimate_of J a i u)

-- the variance whose weight is g of the year's last development year
abbrev pub DivisorIs : Bytes → ℕ → Type 0
DivisorIs f i = both_variances (last_year f) (latest_of f) i ≡ ratio_variance f (last_year f - i)
