-- The contracts of what reads the marks of struck steps.
use Rattle.std.specs.Prelude.{ℕ, ◌≤◌, ◌<◌, List}
use Rattle.definitions.specs.Layout.{parts}
use Rattle.definitions.specs.Refusals.{year_limit}
use Rattle.definitions.specs.Kept.{steps_of}
use Rattle.laws.specs.Filled.{Filled}
use Rattle.observations.specs.Arrays.{unmarked}

pub record OfPartIndex (last k : ℕ) : Type 0 where
  pub few : last ≤ year_limit
  pub below : k < parts last

-- part k has n steps
pub record OfSteps (k n : ℕ) : Type 0 where
  pub part_there : k < 31
  pub few : n ≤ 16

pub record OfYears (last : ℕ) : Type 0 where
  pub few : last ≤ year_limit

-- how many steps of each part are left
pub record LeftIn (struck : List ℕ) (last : ℕ) (r : List ℕ) : Type 0 where
  pub filled : Filled 31 (parts last) 0 (λ k. unmarked struck k (steps_of last k)) r
