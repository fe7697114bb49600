-- The page: every value fits its columns, and two different means never share a page.
use Rattle.std.specs.Prelude.{ℕ, ◌^◌, ◌≤◌, ◌<◌, List, ℤ, nat_abs, get_or}
use Rattle.definitions.specs.Words.{part}
use Rattle.definitions.specs.Layout.{parts}
use Rattle.definitions.specs.Refusals.{year_limit, part_limit}
use Rattle.definitions.specs.Matrix.{Part}
use Rattle.definitions.specs.Text.{index_of}

-- what a line is asked for: its numbers are small enough for their columns
pub record InColumns (p : Part) (mean : ℤ) (own : ℕ) : Type 0 where
  pub index_to : index_of p < 100
  pub mean_to : nat_abs mean < 10 ^ 8
  pub own_to : own < 10 ^ 10

-- what a page is asked for: its lines' numbers are small enough
pub record PageInColumns (J : ℕ) (μ : List ℤ) (D : List ℕ) : Type 0 where
  pub years : J ≤ year_limit
  pub means : (k : ℕ) → k < parts J → nat_abs (part μ k) ≤ part_limit
  pub weights : (k : ℕ) → k < parts J → get_or D k 0 < 10 ^ 10
