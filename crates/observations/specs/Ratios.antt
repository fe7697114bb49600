-- The contract of the weights of the ratios, over an array of variances.
use Rattle.std.specs.Prelude.{ℕ, ◌+◌, ◌-◌, ◌^◌, ◌≤◌, ◌<◌, ◌≡◌, List, length}
use Rattle.integers.specs.Sum.{total}
use Rattle.definitions.specs.Layout.{parts, psi_index}
use Rattle.definitions.specs.Refusals.{year_limit}
use Rattle.definitions.specs.Weight.{weight}
use Rattle.observations.specs.Arrays.{at, ratio_at}

-- the variance behind the ratio of development year k, from variances by part: `ratio_variance` of those of a file
unfoldable pub ratio_from : ℕ → (ℕ → ℕ) → ℕ → ℕ
ratio_from J v k = total (J - k) (λ i. v (k + 1 + i)) + total (J - k) (λ i. v (psi_index J (k + i)))

pub record OfVariances (weights variances : List ℕ) (last : ℕ) : Type 0 where
  pub few : last ≤ year_limit
  pub long : length weights ≡ 77
  pub small : (k : ℕ) → k < parts last → at variances k ≤ 2 ^ 40

-- the years from k on are weighed, and the places before those of the ratios are as they were
pub record WeighedFrom (k : ℕ) (variances : List ℕ) (last : ℕ) (before weights : List ℕ) : Type 0 where
  pub long : length weights ≡ 77
  pub there : (d : ℕ) → k ≤ d → d < last → ratio_at weights d ≡ weight (ratio_from last (at variances) d)
  pub earlier : (i : ℕ) → i < 62 → at weights i ≡ at before i

pub record RatiosWeighed (variances : List ℕ) (last : ℕ) (before weights : List ℕ) : Type 0 where
  pub all : WeighedFrom 0 variances last before weights
