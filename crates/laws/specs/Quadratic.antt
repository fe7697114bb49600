-- A loss that is made of a quadratic of each part and of weighted squares of combinations of the parts, with its matrix, its
-- right-hand side and its expansion around a mean. The loss of the specification is one (`PrecisionMatrix`); nothing here counts
-- observations, so that a loss with fewer of them, or with priors of no weight, is one too.
use Rattle.std.specs.Prelude.{ℕ, ℤ}

pub record Form : Type 0 where
  pub parts : ℕ
  -- of part k: the weights of its own observations, with the observations, with their squares
  pub own : ℕ → ℕ
  pub firsts : ℕ → ℤ
  pub seconds : ℕ → ℤ
  -- of combination d: its weight, the factor of part k in it, the observation
  pub combinations : ℕ
  pub weight : ℕ → ℕ
  pub factor : ℕ → ℕ → ℤ
  pub observed : ℕ → ℤ
