-- The figures of a chain depend on its triangles alone: two chains that agree on every observation there is, with its weight, on the priors
-- and on the ratios have the same own weights, matrix and right-hand side.
use Rattle.std.specs.Prelude.{ℕ, ◌+◌, ◌≤◌, ◌<◌, ◌≡◌}
use Rattle.definitions.specs.Observations.{Chain}

-- as far as the first one's years go
pub record SameChain (c d : Chain) : Type 0 where
  pub p : (i j : ℕ) → i + j ≤ c.last → c.p i j ≡ d.p i j
  pub q : (i j : ℕ) → i + j < c.last → c.q i j ≡ d.q i j
  pub s : (j : ℕ) → j ≤ c.last → c.s j ≡ d.s j
  pub t : (j : ℕ) → j < c.last → c.t j ≡ d.t j
  pub g : (k : ℕ) → k < c.last → c.g k ≡ d.g k
  pub x : (i j : ℕ) → i + j ≤ c.last → c.x i j ≡ d.x i j
  pub z : (i j : ℕ) → i + j < c.last → c.z i j ≡ d.z i j
  pub y : (i : ℕ) → i ≤ c.last → c.y i ≡ d.y i
  pub prior_Φ : (j : ℕ) → j ≤ c.last → c.prior_Φ j ≡ d.prior_Φ j
  pub prior_Ψ : (j : ℕ) → j < c.last → c.prior_Ψ j ≡ d.prior_Ψ j
