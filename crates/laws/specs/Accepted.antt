-- What an accepted file is known to hold, field by field.
use Rattle.std.specs.Prelude.{ℕ, ◌*◌, ◌^◌, ◌≤◌, ◌<◌, ◌≡◌, ◌⊎◌, nat_abs, length}
use Rattle.definitions.specs.Layout.{Bytes, last_year, closeness, parts, cells, variance_of, prior_mean, prior_variance}
use Rattle.definitions.specs.Layout.{amount, paid, incurred, file_length}
use Rattle.definitions.specs.Refusals.{year_limit, closeness_limit, amount_limit, part_limit}

pub record Within (lo hi v : ℕ) : Type 0 where
  pub from : lo ≤ v
  pub to : v ≤ hi

-- a prior's variance, which is 0 where the part has no prior
abbrev pub PriorVariance : ℕ → Type 0
PriorVariance v = (v ≡ 0) ⊎ Within (2 ^ 18) (2 ^ 46) v

pub record AcceptedFile (f : Bytes) : Type 0 where
  pub years : Within 1 year_limit (last_year f)
  pub size : length f ≡ file_length (last_year f)
  pub close : Within 1 closeness_limit (closeness f)
  pub variances : (k : ℕ) → k < parts (last_year f) → Within (2 ^ 18) (2 ^ 40) (variance_of f k)
  pub prior_variances : (k : ℕ) → k < parts (last_year f) → PriorVariance (prior_variance f k)
  pub prior_means_lem : (k : ℕ) → k < parts (last_year f) → nat_abs (prior_mean f k) ≤ part_limit
  pub amounts : (c : ℕ) → c < 2 * cells (last_year f) → Within 1 amount_limit (amount f c)
  pub last_amounts : paid f 0 (last_year f) ≡ incurred f 0 (last_year f)
