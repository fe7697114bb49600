-- The sizes of a bounded chain's figures: whatever the specification's formulas form of it fits 64 bits.
use Rattle.std.specs.Prelude.{ℕ, ◌+◌, ◌*◌, ◌-◌, ◌^◌, ◌≤◌, ◌<◌, ◌≢◌, ℤ, pos, nat_abs, ◌+ℤ◌, ◌-ℤ◌, ◌*ℤ◌}
use Rattle.std.proofs.Common.{ap, le_trans, mul-le-mul, mul-le-mul_right, arith}
use Rattle.integers.specs.Size.{nat_abs-+, nat_abs-*, nat_abs-*-≤, nat_abs--}
use Rattle.integers.specs.Sum.{sum, total}
use Rattle.integers.specs.SumRange.{only_same, only_apart}
use Rattle.integers.specs.Total.{total_bound, sum_size}
use Rattle.definitions.specs.Layout.{parts}
use Rattle.definitions.specs.Refusals.{closeness_limit, part_limit}
use Rattle.definitions.specs.Loss.{Vector}
use Rattle.definitions.specs.Observations.{Chain}
use Rattle.definitions.specs.Matrix.{Φ, Ψ, own, matrix, ratios_of_last, right_hand_side, residue_times}
use Rattle.laws.specs.PrecisionMatrix.{firsts_of}
use Rattle.laws.proofs.Sizes.{Limits, entry_limit_lem, ratios_limit, target_limit, residue_limit_lem}
use Rattle.laws.specs.Chains.{weight_limit, share_limit, observed_limit, Bounded}
use Rattle.laws.proofs.Chains.{by_own}
use Rattle.laws.specs.ChainLimits.{firsts_limit, own_limit, ResidueFits}

own_limit_lem : {s n : ℕ} (w : ℕ → ℕ) → s ≤ weight_limit → n ≤ 16 → ((i : ℕ) → i < n → w i ≤ weight_limit) → s + total n w ≤ own_limit
own_limit_lem {n = n} w prior few light = omega (arith, prior, total_bound n weight_limit light, mul-le-mul_right weight_limit few)

firsts_limit_lem : {s n : ℕ} (w : ℕ → ℕ) (o : ℕ → ℤ) (prior : ℤ) → s ≤ weight_limit → nat_abs prior ≤ part_limit → n ≤ 16
    → ((i : ℕ) → i < n → w i ≤ weight_limit) → ((i : ℕ) → i < n → nat_abs (o i) ≤ observed_limit)
    → nat_abs (pos s *ℤ prior +ℤ sum n (λ i. pos (w i) *ℤ o i)) ≤ firsts_limit
firsts_limit_lem {s} {n} w o prior heavy inside few light small =
    let term : ℕ → ℤ = λ i. pos (w i) *ℤ o i in
    let each : (i : ℕ) → i < n → nat_abs (term i) ≤ weight_limit * observed_limit =
    λ i below. nat_abs-*-≤ (pos (w i)) (o i) (light i below) (small i below) in
    let sums : nat_abs (sum n term) ≤ 16 * (weight_limit * observed_limit) =
    le_trans (sum_size n term)
    (le_trans (total_bound n (weight_limit * observed_limit) each) (mul-le-mul_right (weight_limit * observed_limit) few)) in
    le_trans (nat_abs-+ (pos s *ℤ prior) (sum n term)) (omega (arith, nat_abs-*-≤ (pos s) prior heavy inside, sums))

module _ (c : Chain) (h : Bounded c) where
  abbrev J : ℕ
  J = c.last

  few_x : (j : ℕ) → J - j + 1 ≤ 16
  few_x j = omega (arith, h.years)

  few_z : (j : ℕ) → J - j ≤ 16
  few_z j = omega (arith, h.years)

  -- ---- a part's prior and own observations, as the right-hand side has them

  pub phi_firsts : (j : ℕ) → j ≤ J → nat_abs (firsts_of c (Φ j)) ≤ firsts_limit
  phi_firsts j below =
      firsts_limit_lem (λ i. c.p i j) (λ i. c.x i j) (c.prior_Φ j) (h.s_to j below) (h.prior_Φ_to j below) (few_x j)
      (λ i there. h.p_to i j (omega arith)) (λ i there. h.x_to i j (omega arith))

  pub psi_firsts : (j : ℕ) → j < J → nat_abs (firsts_of c (Ψ j)) ≤ firsts_limit
  psi_firsts j below =
      firsts_limit_lem (λ i. c.q i j) (λ i. c.z i j) (c.prior_Ψ j) (h.t_to j below) (h.prior_Ψ_to j below) (few_z j)
      (λ i there. h.q_to i j (omega arith)) (λ i there. h.z_to i j (omega arith))

  pub chain_limits : Limits c own_limit share_limit firsts_limit observed_limit
  chain_limits = record {
    own_to = by_own c (λ D a. D ≤ own_limit)
        (λ j below. own_limit_lem (λ i. c.p i j) (h.s_to j below) (few_x j) (λ i there. h.p_to i j (omega arith)))
        (λ j below. own_limit_lem (λ i. c.q i j) (h.t_to j below) (few_z j) (λ i there. h.q_to i j (omega arith)));
    shares_to = h.g_to;
    firsts_to = by_own c (λ D a. nat_abs (firsts_of c a) ≤ firsts_limit) phi_firsts psi_firsts;
    ratios_to = λ d below. h.y_to (J - d) (omega arith);
  }

  -- ---- the sizes, as numbers

  pub own_fits : (e : ℕ) → e ≤ closeness_limit → (k : ℕ) → k < parts J → e * own c k ≤ 2 ^ 49
  own_fits e close k below = omega (arith, mul-le-mul close (chain_limits.own_to k below))

  years_limit : J * (J + 1) ≤ 240
  years_limit = omega (arith, mul-le-mul h.years (next h.years))
    where
      next : J ≤ 15 → J + 1 ≤ 16
      next h = omega arith

  -- the entries off the diagonal, and those on it
  pub entry_fits : (k l : ℕ) → k < parts J → l < parts J → k ≢ l → nat_abs (matrix c k l) ≤ 15 * 2 ^ 27
  entry_fits k l k-below l-below apart =
      let no_own = ap nat_abs (only_apart k l (pos (own c k)) apart) in
      omega (arith, entry_limit_lem c chain_limits k l k-below l-below, mul-le-mul_right share_limit h.years)

  pub diagonal_fits : (k : ℕ) → k < parts J → nat_abs (matrix c k k) ≤ 49 * 2 ^ 27
  diagonal_fits k below =
      let with-own = ap nat_abs (only_same k (pos (own c k))) in
      let own-weight = chain_limits.own_to k below in
      omega (arith, entry_limit_lem c chain_limits k k below below, mul-le-mul_right share_limit h.years)

  -- what the ratios of m development years give to a right-hand side
  pub ratios_fit : (m : ℕ) → m ≤ J → nat_abs (ratios_of_last c m) ≤ 660 * 2 ^ 47
  ratios_fit m few =
      omega (arith, ratios_limit c chain_limits m few, mul-le-mul_right (share_limit * observed_limit) (le_trans few h.years))

  pub right_hand_fits : (k : ℕ) → k < parts J → nat_abs (right_hand_side c k) ≤ 2196 * 2 ^ 47
  right_hand_fits k below = omega (arith, target_limit c chain_limits k below, mul-le-mul_right (share_limit * observed_limit) h.years)

  pub residue_fits : (μ : Vector) → ((l : ℕ) → l < parts J → nat_abs (μ l) ≤ part_limit) → (k : ℕ) → k < parts J
      → ResidueFits c μ k
  residue_fits μ small k below =
      let row = mul-le-mul_right (share_limit * part_limit) years_limit in
      let target = mul-le-mul_right (share_limit * observed_limit) h.years in
      omega (arith, residue_limit_lem c chain_limits part_limit μ small k below)

  -- what a step of part k divides: below 2^63
  pub numerator_fits : (μ : Vector) → ((l : ℕ) → l < parts J → nat_abs (μ l) ≤ part_limit) → (k : ℕ) → k < parts J
      → nat_abs (matrix c k k -ℤ pos 2 *ℤ residue_times c 1 μ k) ≤ 39465 * 2 ^ 47
  numerator_fits μ small k below =
      let A : ℤ = matrix c k k in
      let r : ℤ = residue_times c 1 μ k in
      le_trans (nat_abs-- A (pos 2 *ℤ r)) (omega (arith, nat_abs-* (pos 2) r, residue_fits μ small k below, diagonal_fits k below))
