-- The contract of the prior means as a mean.
use Rattle.std.specs.Prelude.{ℕ, ◌^◌, ◌≤◌, ◌<◌, List, ℤ, pos, nat_abs}
use Rattle.definitions.specs.Layout.{parts}
use Rattle.definitions.specs.Refusals.{year_limit}
use Rattle.laws.specs.Filled.{Filled}
use Rattle.observations.specs.Arrays.{mean_at}

pub record OfMeans (ticks : List ℤ) (last : ℕ) : Type 0 where
  pub few : last ≤ year_limit
  pub small : (k : ℕ) → k < parts last → nat_abs (mean_at ticks k) ≤ 2 ^ 26

pub record PriorMeans (ticks : List ℤ) (last : ℕ) (mean : List ℤ) : Type 0 where
  pub filled : Filled 31 (parts last) (pos 0) (mean_at ticks) mean
