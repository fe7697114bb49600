-- Specification, "From amounts to the loss": the weights and the observations of a file, in ticks.
use Rattle.std.specs.Prelude.{ℕ, zero, suc, ◌+◌, ◌-◌, ℤ, pos, ◌-ℤ◌}
use Rattle.integers.specs.Summation.{total}
use Rattle.definitions.specs.Logarithm.{logarithm}
use Rattle.definitions.specs.Weight.{weight}
use Rattle.definitions.specs.Layout.{Bytes, last_year, psi_index, variance_of, prior_mean, prior_variance, paid, incurred}

-- What the loss is made of. Means and observations are in ticks. The weights: p of the observation x and q of the observation z of
-- accident year i and development year j, s and t of the priors, g of the ratios of incurred to paid.
pub record Chain : Type 0 where
  pub last : ℕ
  pub p : ℕ → ℕ → ℕ
  pub q : ℕ → ℕ → ℕ
  pub s : ℕ → ℕ
  pub t : ℕ → ℕ
  pub g : ℕ → ℕ
  pub x : ℕ → ℕ → ℤ
  pub z : ℕ → ℕ → ℤ
  pub y : ℕ → ℤ
  pub prior_Φ : ℕ → ℤ
  pub prior_Ψ : ℕ → ℤ

-- ---- variances

abbrev pub σ² : Bytes → ℕ → ℕ
σ² f j = variance_of f j

abbrev pub τ² : Bytes → ℕ → ℕ
τ² f j = variance_of f (psi_index (last_year f) j)

-- The variance behind g_k: σ²_m for m = k+1..J and τ²_n for n = k..J−1, J − k of each. (Traps: k is a development year, not an
-- accident year; the variances are added before the one rounding; m starts at k + 1, so Φ_0 shares in no g.)
unfoldable pub ratio_variance : Bytes → ℕ → ℕ
ratio_variance f k = total (last_year f - k) (λ i. σ² f (k + 1 + i)) + total (last_year f - k) (λ i. τ² f (k + i))

-- ---- observations

abbrev pub log_of : ℕ → ℤ
log_of a = pos (logarithm a)

-- x_(i,0) = log P_(i,0); x_(i,j) = log P_(i,j) − log P_(i,j−1)
unfoldable pub paid_step : Bytes → ℕ → ℕ → ℤ
paid_step f i zero = log_of (paid f i 0)
paid_step f i (suc j) = log_of (paid f i (suc j)) -ℤ log_of (paid f i j)

-- z_(i,j) = log I_(i,j+1) − log I_(i,j)
unfoldable pub incurred_step : Bytes → ℕ → ℕ → ℤ
incurred_step f i j = log_of (incurred f i (j + 1)) -ℤ log_of (incurred f i j)

-- y_i = log I_(i,J−i) − log P_(i,J−i)
unfoldable pub last_ratio : Bytes → ℕ → ℤ
last_ratio f i = log_of (incurred f i (last_year f - i)) -ℤ log_of (paid f i (last_year f - i))

-- of a file: p_j and q_j are the same for every accident year
abbrev pub chain_of : Bytes → Chain
chain_of f = record {
  last = last_year f;
  p = λ i j. weight (σ² f j);
  q = λ i j. weight (τ² f j);
  s = λ j. weight (prior_variance f j);
  t = λ j. weight (prior_variance f (psi_index (last_year f) j));
  g = λ k. weight (ratio_variance f k);
  x = paid_step f;
  z = incurred_step f;
  y = last_ratio f;
  prior_Φ = prior_mean f;
  prior_Ψ = λ j. prior_mean f (psi_index (last_year f) j);
}
