-- What the laws ask of a chain, whatever it was made of. It is bounded where its weights and observations have upper limits, and that is
-- all that any size needs. It is carried where each column has an observation of weight at least 1 and at least each g that its part
-- shares, and that is all that the guarantee, the positive diagonal and the sweep need.
use Rattle.std.specs.Prelude.{ℕ, ◌+◌, ◌*◌, ◌^◌, ◌≤◌, ◌<◌, nat_abs}
use Rattle.definitions.specs.Logarithm.{ticks_per_doubling}
use Rattle.definitions.specs.Refusals.{year_limit, part_limit}
use Rattle.definitions.specs.Observations.{Chain}

abbrev pub weight_limit : ℕ
weight_limit = 2 ^ 28

-- of a g, whose variance is the sum of two or more
abbrev pub share_limit : ℕ
share_limit = 2 ^ 27

-- the logarithm of the largest amount, 2^44: the size limit of logarithms and observations
abbrev pub observed_limit : ℕ
observed_limit = 44 * ticks_per_doubling

pub record Bounded (c : Chain) : Type 0 where
  pub years : c.last ≤ year_limit
  pub p_to : (i j : ℕ) → i + j ≤ c.last → c.p i j ≤ weight_limit
  pub q_to : (i j : ℕ) → i + j < c.last → c.q i j ≤ weight_limit
  pub s_to : (j : ℕ) → j ≤ c.last → c.s j ≤ weight_limit
  pub t_to : (j : ℕ) → j < c.last → c.t j ≤ weight_limit
  pub g_to : (d : ℕ) → d < c.last → c.g d ≤ share_limit
  pub x_to : (i j : ℕ) → i + j ≤ c.last → nat_abs (c.x i j) ≤ observed_limit
  pub z_to : (i j : ℕ) → i + j < c.last → nat_abs (c.z i j) ≤ observed_limit
  pub y_to : (i : ℕ) → i ≤ c.last → nat_abs (c.y i) ≤ observed_limit
  pub prior_Φ_to : (j : ℕ) → j ≤ c.last → nat_abs (c.prior_Φ j) ≤ part_limit
  pub prior_Ψ_to : (j : ℕ) → j < c.last → nat_abs (c.prior_Ψ j) ≤ part_limit

-- by the accident years of those observations, one for each column of x and one for each of z
pub record Carried (c : Chain) : Type 0 where
  pub x_year : ℕ → ℕ
  pub x_there : (j : ℕ) → j ≤ c.last → x_year j + j ≤ c.last
  pub x_counts : (j : ℕ) → j ≤ c.last → 1 ≤ c.p (x_year j) j
  pub x_shares : (d j : ℕ) → d < j → j ≤ c.last → c.g d ≤ c.p (x_year j) j
  pub z_year : ℕ → ℕ
  pub z_there : (j : ℕ) → j < c.last → z_year j + j < c.last
  pub z_counts : (j : ℕ) → j < c.last → 1 ≤ c.q (z_year j) j
  pub z_shares : (d j : ℕ) → d ≤ j → j < c.last → c.g d ≤ c.q (z_year j) j

-- Every observation counts; and every one carries its column.
pub record Counted (c : Chain) : Type 0 where
  pub x_counts : (i j : ℕ) → i + j ≤ c.last → 1 ≤ c.p i j
  pub z_counts : (i j : ℕ) → i + j < c.last → 1 ≤ c.q i j

pub record Carries (c : Chain) : Type 0 where
  pub counted : Counted c
  pub x_shares : (d i j : ℕ) → d < j → i + j ≤ c.last → c.g d ≤ c.p i j
  pub z_shares : (d i j : ℕ) → d ≤ j → i + j < c.last → c.g d ≤ c.q i j
