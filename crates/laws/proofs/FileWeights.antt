-- The weights of an accepted file: where they lie, and that every g is at most the weights whose variances are in its sum. So each of its
-- observations carries its column.
use Rattle.std.specs.Prelude.{ℕ, ◌+◌, ◌-◌, ◌^◌, ◌≤◌, ◌<◌, ◌≡◌}
use Rattle.std.proofs.Math.Path.{ap}
use Rattle.std.proofs.Common.{inl, inr}
use native.Mathlib.Omega.{arith}
use Rattle.integers.specs.Total.{total_term}
use Rattle.definitions.specs.Layout.{Bytes, last_year, parts, psi_index, variance_of, prior_variance}
use Rattle.definitions.specs.Weight.{weight}
use Rattle.definitions.specs.Observations.{chain_of, σ², τ², ratio_variance}
use Rattle.laws.specs.Accepted.{AcceptedFile, PriorVariance, Within}
use Rattle.laws.proofs.WeightLaws.{weight_of_none, weight_falls, weight_positive, weight_at_most, weight_of_two_at_most}
use Rattle.laws.specs.Chains.{Carries}

module _ (f : Bytes) (h : AcceptedFile f) where
  abbrev J : ℕ
  J = last_year f

  -- ---- variances

  σ²_within : (j : ℕ) → j ≤ J → Within (2 ^ 18) (2 ^ 40) (σ² f j)
  σ²_within j below = h.variances j (omega arith)

  τ²_within : (j : ℕ) → j < J → Within (2 ^ 18) (2 ^ 40) (τ² f j)
  τ²_within j below = h.variances (psi_index J j) (omega arith)

  σ²_shared : (d j : ℕ) → d < j → j ≤ J → σ² f j ≤ ratio_variance f d
  unfolding ratio_variance
  σ²_shared d j past below =
      let term = total_term (J - d) (j - (d + 1)) (λ i. σ² f (d + 1 + i)) (omega arith) in
      let same : σ² f (d + 1 + (j - (d + 1))) ≡ σ² f j = ap (σ² f) (back d j past) in
      omega arith
    where
      back : (d j : ℕ) → d < j → d + 1 + (j - (d + 1)) ≡ j
      back d j past = omega arith

  τ²_shared : (d j : ℕ) → d ≤ j → j < J → τ² f j ≤ ratio_variance f d
  unfolding ratio_variance
  τ²_shared d j past below =
      let term = total_term (J - d) (j - d) (λ i. τ² f (d + i)) (omega arith) in
      let same : τ² f (d + (j - d)) ≡ τ² f j = ap (τ² f) (back d j past) in
      omega arith
    where
      back : (d j : ℕ) → d ≤ j → d + (j - d) ≡ j
      back d j past = omega arith

  -- a sum of at least two variances
  pub ratio_variance_least : (d : ℕ) → d < J → 2 ^ 19 ≤ ratio_variance f d
  unfolding ratio_variance
  ratio_variance_least d below =
      let paid_term = total_term (J - d) 0 (λ i. σ² f (d + 1 + i)) (omega arith) in
      let incurred_term = total_term (J - d) 0 (λ i. τ² f (d + i)) (omega arith) in
      omega (arith, paid_term, incurred_term, (σ²_within (d + 1 + 0) (omega arith)).from, (τ²_within (d + 0) (omega arith)).from)

  -- ---- weights

  pub p_falls : (d j : ℕ) → d < j → j ≤ J → weight (ratio_variance f d) ≤ weight (σ² f j)
  p_falls d j past below = weight_falls (σ² f j) (ratio_variance f d) (omega (arith, (σ²_within j below).from)) (σ²_shared d j past below)

  pub q_falls : (d j : ℕ) → d ≤ j → j < J → weight (ratio_variance f d) ≤ weight (τ² f j)
  q_falls d j past below = weight_falls (τ² f j) (ratio_variance f d) (omega (arith, (τ²_within j below).from)) (τ²_shared d j past below)

  pub g_to : (d : ℕ) → d < J → weight (ratio_variance f d) ≤ 2 ^ 27
  g_to d below = weight_of_two_at_most (ratio_variance f d) (ratio_variance_least d below)

  -- of each part's observations
  pub part_from : (k : ℕ) → k < parts J → 1 ≤ weight (variance_of f k)
  part_from k below =
      let v = h.variances k below in weight_positive (variance_of f k) (omega (arith, v.from)) (omega (arith, v.to))

  pub part_to : (k : ℕ) → k < parts J → weight (variance_of f k) ≤ 2 ^ 28
  part_to k below = weight_at_most (variance_of f k) (h.variances k below).from

  pub p_from : (j : ℕ) → j ≤ J → 1 ≤ weight (σ² f j)
  p_from j below = part_from j (omega arith)

  pub q_from : (j : ℕ) → j < J → 1 ≤ weight (τ² f j)
  q_from j below = part_from (psi_index J j) (omega arith)

  pub prior_to : (k : ℕ) → k < parts J → weight (prior_variance f k) ≤ 2 ^ 28
  prior_to k below = by_variance (h.prior_variances k below)
    where
      by_variance : {v : ℕ} → PriorVariance v → weight v ≤ 2 ^ 28
      by_variance (inl none) = rw (none, weight_of_none) (omega arith)
      by_variance (inr some) = weight_at_most _ some.from

  pub file_carries : Carries (chain_of f)
  file_carries = record {
    counted = record { x_counts = λ i j there. p_from j (omega arith); z_counts = λ i j there. q_from j (omega arith) };
    x_shares = λ d i j past there. p_falls d j past (omega arith);
    z_shares = λ d i j past there. q_falls d j past (omega arith);
  }
