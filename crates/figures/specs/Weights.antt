-- The contracts of own weights and of the sums of g, over the array of weights.
use Rattle.std.specs.Prelude.{ℕ, ◌+◌, ◌*◌, ◌^◌, ◌≤◌, ◌<◌, ◌≡◌, List, ℤ, pos}
use Rattle.integers.specs.Sum.{sum}
use Rattle.definitions.specs.Words.{part}
use Rattle.definitions.specs.Layout.{parts}
use Rattle.definitions.specs.Refusals.{year_limit}
use Rattle.laws.specs.Filled.{Filled}
use Rattle.observations.specs.Arrays.{at, prior_at, ratio_at}

-- ---- ratios

pub record Shares (weights : List ℕ) (last : ℕ) : Type 0 where
  pub few : last ≤ year_limit
  pub small : (d : ℕ) → d < last → ratio_at weights d ≤ 2 ^ 28

pub record SharesOf (weights : List ℕ) (last : ℕ) (r : List ℤ) : Type 0 where
  pub is : (n : ℕ) → n ≤ last → part r n ≡ sum n (λ d. pos (ratio_at weights d))

-- ---- own weights

pub record OfPart (last k : ℕ) : Type 0 where
  pub few : last ≤ year_limit
  pub below : k < parts last

-- of each part at most 16 observations are left
pub record Owns (weights left : List ℕ) (last : ℕ) : Type 0 where
  pub few : last ≤ year_limit
  pub left_few : (k : ℕ) → k < parts last → at left k ≤ 16
  pub columns_small : (k : ℕ) → k < parts last → at weights k ≤ 2 ^ 28
  pub priors_small : (k : ℕ) → k < parts last → prior_at weights k ≤ 2 ^ 28

pub record OwnWeights (weights left : List ℕ) (last : ℕ) (r : List ℕ) : Type 0 where
  pub filled : Filled 31 (parts last) 0 (λ k. prior_at weights k + at left k * at weights k) r
