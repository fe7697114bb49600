-- What the functions of `differences` read is what a session keeps; what they add up fits 64 bits, whatever stands in the session; and the
-- sums are the definitions' residues.
use Prim.Native.Nat.{ℕ, suc, ◌+◌, ◌*◌, ◌-◌, ◌^◌, ◌≤◌, ◌<◌, zero-le}
use Rattle.std.specs.Prelude.{◌≡◌, ◌≢◌, cond, List, [], ◌∷◌, ℤ, pos, nat_abs, ◌+ℤ◌, ◌*ℤ◌}
use Rattle.std.proofs.Math.Path.{refl, sym, ap, ap₂}
use Rattle.std.proofs.Common.{subst, ◌∙◌, le_trans}
use native.Mathlib.Omega.{arith}
use Rattle.std.proofs.Math.IntN.{◌-ℤ◌}
use Rattle.integers.specs.Ring.{*ℤ_idl}
use Rattle.integers.specs.Size.{nat_abs--, nat_abs-*-≤}
use Rattle.integers.specs.Solver.{ring, ◌⊞◌, ◌⊟◌, ◌⊠◌, ⊖◌, num, ◌≐◌}
use Rattle.integers.specs.Sum.{sum, sum_cong, sum--}
use Rattle.integers.specs.Total.{total_bound, sum_size}
use Rattle.definitions.specs.Words.{part}
use Rattle.definitions.specs.Layout.{parts, psi_index, cells, row_start}
use Rattle.definitions.specs.Refusals.{part_limit}
use Rattle.definitions.specs.Observations.{Chain}
use Rattle.definitions.specs.Loss.{phi, psi, ratio}
use Rattle.definitions.specs.Matrix.{Part, Φ, Ψ, part_by_index}
use Rattle.definitions.specs.Residues.{ratios_missed, residue_by, observed_times}
use Rattle.definitions.specs.Strikes.{step, steps_in}
use Rattle.definitions.specs.Sweep.{bring_back}
use Rattle.definitions.specs.Kept.{paid_step_in, chain_in, channel_of, column_of, steps_of, marked}
use Rattle.laws.specs.Chains.{Bounded, observed_limit}
use Rattle.laws.proofs.Marks.{steps_phi, steps_psi, steps_few}
use Rattle.laws.proofs.PrecisionMatrix.{by_development}
use Rattle.laws.specs.Ranks.{rank_of, sign_of}
use Rattle.laws.proofs.Ranks.{part_by_index_phi, part_by_index_psi, part_psi, by_part, rank_below}
use Rattle.laws.proofs.SameChains.{IsPart, is_part}
use Rattle.laws.proofs.StruckChain.{left_bounded}
use Rattle.observations.specs.declared.Observations.{Observations}
use Rattle.observations.specs.Arrays.{at, mean_at, prior_at, ratio_at, brought_within, observed_in, struck_at, struck_in}
use Rattle.observations.proofs.KeptLaws.{weight_at, prior_at_lem, ratio_at_lem, mean_at_lem, paid_log, incurred_log, kept_bounded}
use Rattle.observations.proofs.MarkLaws.{marked_at}
use Rattle.differences.specs.Differences.{left_in, log_at, prior_weight_of, prior_mean_of, weight_of, observation_of, prior_term, step_term}
use Rattle.differences.specs.Differences.{ratio_from, ratio_term}

-- ---- what is read

module _ (J : ℕ) (o : Observations) where
  abbrev c : Chain
  c = left_in J o

  pub prior_weight_is : (k : ℕ) → k < parts J
      → brought_within 0 (2 ^ 28) (prior_at o.weights k) ≡ prior_weight_of (left_in J o) (part_by_index J k)
  prior_weight_is =
      by_part J (λ k. brought_within 0 (2 ^ 28) (prior_at o.weights k) ≡ prior_weight_of c (part_by_index J k))
      (λ j few. sym (ap (prior_weight_of c) (part_by_index_phi J j few) ∙ prior_at_lem J o j (omega arith)))
      (λ j below. sym (ap (prior_weight_of c) (part_by_index_psi J j) ∙ prior_at_lem J o (psi_index J j) (omega arith)))

  pub prior_mean_is : (k : ℕ) → k < parts J → bring_back (mean_at o.ticks k) ≡ prior_mean_of (left_in J o) (part_by_index J k)
  prior_mean_is =
      by_part J (λ k. bring_back (mean_at o.ticks k) ≡ prior_mean_of c (part_by_index J k))
      (λ j few. sym (ap (prior_mean_of c) (part_by_index_phi J j few) ∙ mean_at_lem J o j (omega arith)))
      (λ j below. sym (ap (prior_mean_of c) (part_by_index_psi J j) ∙ mean_at_lem J o (psi_index J j) (omega arith)))

  -- with nothing struck
  whole_weight : (i k : ℕ) → k < parts J
      → weight_of (chain_in J (observed_in J o)) (part_by_index J k) i ≡ brought_within 1 (2 ^ 28) (at o.weights k)
  whole_weight i =
      by_part J (λ k. weight_of (chain_in J (observed_in J o)) (part_by_index J k) i ≡ brought_within 1 (2 ^ 28) (at o.weights k))
      (λ j few. ap (λ a. weight_of (chain_in J (observed_in J o)) a i) (part_by_index_phi J j few) ∙ weight_at J o j (omega arith))
      (λ j below. ap (λ a. weight_of (chain_in J (observed_in J o)) a i) (part_by_index_psi J j)
      ∙ weight_at J o (psi_index J j) (omega arith))

  unstruck_weight : (i : ℕ) (a : Part)
      → weight_of c a i
      ≡ cond (marked J (struck_in J o) (step (channel_of a) i (column_of a))) 0 (weight_of (chain_in J (observed_in J o)) a i)
  unstruck_weight i (Φ j) = refl
  unstruck_weight i (Ψ j) = refl

  pub step_weight_is : (k i : ℕ) → k < parts J → i < steps_of J k
      → cond (struck_at J o.struck k i) 0 (brought_within 1 (2 ^ 28) (at o.weights k)) ≡ weight_of (left_in J o) (part_by_index J k) i
  step_weight_is k i below there =
      sym (unstruck_weight i (part_by_index J k) ∙ ap₂ (λ t w. cond t 0 w) (marked_at J o k i below there) (whole_weight i k below))

  -- the observation of part k and accident year i
  abbrev observed : ℕ → ℕ → ℤ
  observed k i = observation_of c (part_by_index J k) i

  pub first_is : (k i : ℕ) → k ≡ 0 → i < steps_of J k → log_at o.ticks (row_start J i) ≡ observation_of (left_in J o) (part_by_index J k) i
  unfolding paid_step_in
  first_is k i none there =
      let at_0 : row_start J i + 0 ≡ row_start J i = omega arith in
      let some = ap (steps_of J) (sym none) ∙ refl in
      sym (ap (λ n. observed n i) none
      ∙ ap (λ a. observation_of c a i) (part_by_index_phi J 0 zero-le)
      ∙ paid_log J o i 0 (omega (arith, there, ap (steps_of J) none, steps_phi J 0 zero-le))
      ∙ ap (log_at o.ticks) at_0)

  pub paid_is : (k i : ℕ) → k ≢ 0 → k ≤ J → i < steps_of J k
      → log_at o.ticks (row_start J i + (k - 1) + 1) -ℤ log_at o.ticks (row_start J i + (k - 1))
      ≡ observation_of (left_in J o) (part_by_index J k) i
  unfolding paid_step_in
  paid_is k i some few there =
      let j : ℕ = k - 1 in
      let k_is : k ≡ suc j = omega arith in
      let inside : i + k ≤ J = omega (arith, there, steps_phi J k few) in
      let next : row_start J i + suc j ≡ row_start J i + j + 1 = omega arith in
      sym (ap (λ a. observation_of c a i) (part_by_index_phi J k few ∙ ap Φ k_is)
      ∙ ap₂ ◌-ℤ◌ (paid_log J o i (suc j) (omega arith) ∙ ap (log_at o.ticks) next) (paid_log J o i j (omega arith)))

  pub incurred_is : (k i : ℕ) → J < k → k < parts J → i < steps_of J k
      → log_at o.ticks (cells J + (row_start J i + (k - J - 1)) + 1) -ℤ log_at o.ticks (cells J + (row_start J i + (k - J - 1)))
      ≡ observation_of (left_in J o) (part_by_index J k) i
  incurred_is k i past below there =
      let j : ℕ = k - J - 1 in
      let j_is : k - (J + 1) ≡ j = omega arith in
      let inside : i + j < J = omega (arith, there, steps_psi J k past) in
      let next : cells J + (row_start J i + (j + 1)) ≡ cells J + (row_start J i + j) + 1 = omega arith in
      sym (ap (λ a. observation_of c a i) (part_psi J k past ∙ ap Ψ j_is)
      ∙ ap₂ ◌-ℤ◌ (incurred_log J o i (j + 1) (omega arith) ∙ ap (log_at o.ticks) next) (incurred_log J o i j (omega arith)))

  pub ratio_weight_is : (d : ℕ) → d < J → brought_within 0 (2 ^ 27) (ratio_at o.weights d) ≡ (left_in J o).g d
  ratio_weight_is d below = sym (ratio_at_lem J o d below)

  pub last_ratio_is : (d : ℕ) → d < J
      → log_at o.ticks (cells J + (row_start J (J - d) + d)) -ℤ log_at o.ticks (row_start J (J - d) + d) ≡ (left_in J o).y (J - d)
  last_ratio_is d below =
      let d_is : J - (J - d) ≡ d = omega arith in
      sym (ap₂ ◌-ℤ◌ (incurred_log J o (J - d) (J - (J - d)) (omega arith)) (paid_log J o (J - d) (J - (J - d)) (omega arith))
      ∙ ap (λ n. log_at o.ticks (cells J + (row_start J (J - d) + n)) -ℤ log_at o.ticks (row_start J (J - d) + n)) d_is)

  pub ratio_is : (mean : List ℤ) (d : ℕ) → d < J → ratio_from mean J d ≡ ratio (left_in J o) (part mean) (J - d)
  unfolding ratio
  ratio_is mean d below =
      let d_is : J - (J - d) ≡ d = omega arith in
      let behind : (n : ℕ) → J + 1 + d + n ≡ psi_index J (d + n) = λ n. omega arith in
      sum-- (J - d) (λ n. part mean (d + 1 + n)) (λ n. part mean (J + 1 + d + n))
      ∙ ap₂ ◌-ℤ◌
      (ap (λ m. sum (J - d) (λ n. part mean (m + 1 + n))) (sym d_is))
      (sum_cong (J - d) (λ n _. ap (part mean) (behind n)) ∙ ap (λ m. sum (J - d) (λ n. part mean (psi_index J (m + n)))) (sym d_is))

-- the accident year of a part's step
pub step_year : (J k i : ℕ) → k < parts J → i < steps_of J k → i ≤ J
step_year J k i below there = by_kind (part_by_index J k) (is_part J k below) there
  where
    by_kind : (a : Part) → IsPart J a → i < steps_in J (channel_of a) (column_of a) → i ≤ J
    by_kind (Φ j) few there = omega arith
    by_kind (Ψ j) below there = omega arith

-- ---- sizes

-- weight times difference
term_small : (w : ℕ) (v z : ℤ) {m a b : ℕ} → w ≤ m → nat_abs v ≤ a → nat_abs z ≤ b → nat_abs (pos w *ℤ (v -ℤ z)) ≤ m * (a + b)
term_small w v z light v-small z-small = nat_abs-*-≤ (pos w) (v -ℤ z) light (le_trans (nat_abs-- v z) (omega arith))

-- n differences of a ratio, from development year d on
pub ratio_small : (J : ℕ) (mean : List ℤ) → ((k : ℕ) → k < parts J → nat_abs (part mean k) ≤ part_limit) → (d n : ℕ) → d + n ≤ J
    → nat_abs (sum n (λ i. part mean (d + 1 + i) -ℤ part mean (J + 1 + d + i))) ≤ n * 2 ^ 27
ratio_small J mean small d n few =
    le_trans (sum_size n difference) (total_bound n (2 ^ 27) {f = λ i. nat_abs (difference i)} each)
  where
    difference : ℕ → ℤ
    difference i = part mean (d + 1 + i) -ℤ part mean (J + 1 + d + i)

    each : (i : ℕ) → i < n → nat_abs (difference i) ≤ 2 ^ 27
    each i before =
        le_trans (nat_abs-- (part mean (d + 1 + i)) (part mean (J + 1 + d + i)))
        (omega (arith, small (d + 1 + i) (omega arith), small (J + 1 + d + i) (omega arith)))

module _ (J : ℕ) (o : Observations) (years : J ≤ 15) where
  abbrev d : Chain
  d = left_in J o

  bounded : Bounded d
  bounded = left_bounded (chain_in J (observed_in J o)) (marked J (struck_in J o)) (kept_bounded J o years)

  pub prior_mean_small : (k : ℕ) → k < parts J → nat_abs (prior_mean_of (left_in J o) (part_by_index J k)) ≤ 2 ^ 26
  prior_mean_small k below = by_kind (part_by_index J k) (is_part J k below)
    where
      by_kind : (a : Part) → IsPart J a → nat_abs (prior_mean_of d a) ≤ 2 ^ 26
      by_kind (Φ j) few = bounded.prior_Φ_to j few
      by_kind (Ψ j) below = bounded.prior_Ψ_to j below

  pub observation_small : (k i : ℕ) → k < parts J → i < steps_of J k
      → nat_abs (observation_of (left_in J o) (part_by_index J k) i) ≤ observed_limit
  observation_small k i below there = by_kind (part_by_index J k) (is_part J k below) there
    where
      by_kind : (a : Part) → IsPart J a → i < steps_in J (channel_of a) (column_of a) → nat_abs (observation_of d a i) ≤ observed_limit
      by_kind (Φ j) few there = bounded.x_to i j (omega arith)
      by_kind (Ψ j) below there = bounded.z_to i j (omega arith)

  pub step_weight_small : (k i : ℕ) → k < parts J → i < steps_of J k → weight_of (left_in J o) (part_by_index J k) i ≤ 2 ^ 28
  step_weight_small k i below there = by_kind (part_by_index J k) (is_part J k below) there
    where
      by_kind : (a : Part) → IsPart J a → i < steps_in J (channel_of a) (column_of a) → weight_of d a i ≤ 2 ^ 28
      by_kind (Φ j) few there = bounded.p_to i j (omega arith)
      by_kind (Ψ j) below there = bounded.q_to i j (omega arith)

  module _ (k : ℕ) (below : k < parts J) (v : ℤ) (small : nat_abs v ≤ part_limit) where
    pub prior_small : nat_abs (prior_term (left_in J o) (part_by_index J k) v) ≤ 2 ^ 55
    prior_small =
        let weight = prior_weight_is J o k below in
        omega (
          arith,
          term_small (prior_weight_of d (part_by_index J k)) v (prior_mean_of d (part_by_index J k)) {m = 2 ^ 28}
              (omega (arith, weight)) small
              (prior_mean_small k below),
        )

    pub steps_small : (n : ℕ) → n ≤ steps_of J k → nat_abs (sum n (step_term (left_in J o) (part_by_index J k) v)) ≤ 2 ^ 59
    steps_small n within-part =
        omega (arith, sum_size n (step_term d (part_by_index J k) v), total_bound n (2 ^ 55) each, steps_few J k years)
      where
        each : (i : ℕ) → i < n → nat_abs (step_term d (part_by_index J k) v i) ≤ 2 ^ 55
        each i before =
            omega (
              arith,
              term_small (weight_of d (part_by_index J k) i) v (observation_of d (part_by_index J k) i)
                  (step_weight_small k i below (omega arith)) small (observation_small k i below (omega arith)),
            )

  pub last_ratio_small : (e : ℕ) → e < J → nat_abs ((left_in J o).y (J - e)) ≤ 2 ^ 26
  last_ratio_small e below = omega (arith, bounded.y_to (J - e) (omega arith))

  module _ (mean : List ℤ) (small : (k : ℕ) → k < parts J → nat_abs (part mean k) ≤ part_limit) where
    pub ratio_term_small : (e : ℕ) → e < J → nat_abs (ratio_term (left_in J o) mean e) ≤ 31 * 2 ^ 53
    ratio_term_small e before =
        let of_mean : nat_abs (ratio d (part mean) (J - e)) ≤ 15 * 2 ^ 27 =
        subst (λ z. nat_abs z ≤ 15 * 2 ^ 27) (ratio_is J o mean e before)
        (omega (arith, ratio_small J mean small e (J - e) (omega arith), years)) in
        omega (
          arith,
          term_small (d.g e) (ratio d (part mean) (J - e)) (d.y (J - e)) (bounded.g_to e before) of_mean
              (bounded.y_to (J - e) (omega arith)),
        )

    pub ratios_small : (n : ℕ) → n ≤ J → nat_abs (sum n (ratio_term (left_in J o) mean)) ≤ 2 ^ 62
    ratios_small n few =
        omega (
          arith,
          sum_size n (ratio_term d mean),
          total_bound n (31 * 2 ^ 53) (λ e before. ratio_term_small e (omega arith)),
          years,
        )

-- ---- the sums are the definitions' residues

module _ (J : ℕ) (o : Observations) (mean : List ℤ) where
  abbrev left : Chain
  left = left_in J o

  ratios_are : (n : ℕ) → n ≤ J → sum n (ratio_term left mean) ≡ ratios_missed left 1 (part mean) n
  ratios_are n few =
      sum_cong n (λ e _. ap (λ y. pos (left.g e) *ℤ (ratio left (part mean) (J - e) -ℤ y)) (sym (*ℤ_idl (left.y (J - e)))))
      ∙ sym (by_development left (λ e i. pos (left.g e) *ℤ (ratio left (part mean) i -ℤ pos 1 *ℤ left.y i)) n few)

  abbrev value_of : Part → ℤ
  value_of (Φ j) = phi left (part mean) j
  value_of (Ψ j) = psi left (part mean) j

  abbrev own_of : Part → ℤ → ℤ
  own_of a v = prior_term left a v +ℤ sum (steps_in J (channel_of a) (column_of a)) (step_term left a v)

  value_is : (k : ℕ) → k < parts J → part mean k ≡ value_of (part_by_index J k)
  value_is =
      by_part J (λ k. part mean k ≡ value_of (part_by_index J k))
      (λ j few. ap value_of (sym (part_by_index_phi J j few)))
      (λ j below. ap value_of (sym (part_by_index_psi J j)))

  -- weight times difference, as the definitions have it with m = 1
  once : (w : ℕ) (v z : ℤ) → pos w *ℤ (v -ℤ z) ≡ pos w *ℤ (v -ℤ pos 1 *ℤ z)
  once w v z = ap (λ y. pos w *ℤ (v -ℤ y)) (sym (*ℤ_idl z))

  by_kind : (a : Part) → rank_of a ≤ J
      → own_of a (value_of a) +ℤ sign_of a *ℤ sum (rank_of a) (ratio_term left mean) ≡ residue_by left 1 (part mean) a
  by_kind (Φ j) few =
      ap₂ ◌+ℤ◌
      (ap₂ ◌+ℤ◌ (once (left.s j) (phi left (part mean) j) (left.prior_Φ j))
      (sum_cong (J - j + 1) (λ i _. once (left.p i j) (phi left (part mean) j) (left.x i j))))
      (*ℤ_idl (sum j (ratio_term left mean)) ∙ ratios_are j few)
  by_kind (Ψ j) few =
      ring (own_of (Ψ j) (psi left (part mean) j) ∷ sum (j + 1) (ratio_term left mean) ∷ []) (λ o r. o ⊞ ⊖ num 1 ⊠ r ≐ o ⊟ r) tt
      ∙ ap₂ ◌-ℤ◌
      (ap₂ ◌+ℤ◌ (once (left.t j) (psi left (part mean) j) (left.prior_Ψ j))
      (sum_cong (J - j) (λ i _. once (left.q i j) (psi left (part mean) j) (left.z i j))))
      (ratios_are (j + 1) few)

  pub residue_is : (k : ℕ) → k < parts J → (shared : List ℤ) → ((n : ℕ) → n ≤ J → part shared n ≡ sum n (ratio_term (left_in J o) mean))
      → prior_term (left_in J o) (part_by_index J k) (part mean k)
      +ℤ sum (steps_of J k) (step_term (left_in J o) (part_by_index J k) (part mean k))
      +ℤ sign_of (part_by_index J k) *ℤ part shared (rank_of (part_by_index J k))
      ≡ observed_times (left_in J o) 1 (part mean) k
  unfolding observed_times
  residue_is k below shared are =
      let a : Part = part_by_index J k in
      ap₂ (λ v r. own_of a v +ℤ sign_of a *ℤ r) (value_is k below) (are (rank_of a) (rank_below J k below))
      ∙ by_kind a (rank_below J k below)
