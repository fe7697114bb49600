-- The specification's loss, observation by observation, is the loss of its `Form`.
use Prim.Native.Nat.{ℕ, suc, ◌+◌, ◌*◌, ◌-◌, ◌<◌}
use Rattle.std.specs.Prelude.{◌≡◌, [], ◌∷◌, Bool, true, false, leb, ltb, pos, negsuc, neg_ℤ, ◌-ℤ◌, ◌*ℤ◌}
use Rattle.std.proofs.Math.Path.{sym, ap, ap₂}
use Rattle.std.proofs.Common.{◌∙◌, add-one, arith}
use Rattle.std.proofs.Math.Dec.{leb-suc-suc}
use Rattle.std.proofs.Math.IntN.{ℤ, ◌+ℤ◌, zero-*ℤ}
use Rattle.integers.specs.Ring.{*ℤ_idl}
use Rattle.integers.specs.Solver.{ring, ◌⊞◌, ◌⊟◌, ◌⊠◌, ⊖◌, num, ◌≐◌}
use Rattle.integers.specs.Sum.{sum, total, sum_cong, sum-+, sum_neg, sum_scale, sum_scale_right}
use Rattle.integers.specs.SumRange.{only, sum_split, sum_reverse, sum_from}
use Rattle.integers.specs.Total.{pos_total}
use Rattle.definitions.specs.Layout.{parts, psi_index}
use Rattle.definitions.specs.Loss.{Vector, weighted, phi, psi, ratio, loss_times}
use Rattle.definitions.specs.Observations.{Chain}
use Rattle.definitions.specs.Matrix.{Part, Φ, Ψ, own_of, own}
use Rattle.laws.proofs.Quadratic.{combined, own_term, combined_term, form_loss}
use Rattle.laws.specs.Ranks.{rank_of, sign_of}
use Rattle.laws.proofs.Ranks.{part_by_index_phi, part_by_index_psi}
use Rattle.laws.specs.PrecisionMatrix.{loss_form, firsts_of, seconds_of}

-- n observations o with their weights w, and a prior of weight s: their sums of squares, as a quadratic of v
module _ (w : ℕ → ℕ) (n s : ℕ) (o : ℕ → ℤ) (prior m v : ℤ) where
  -- the weights, the weighted observations and their weighted squares, added up
  abbrev Σw : ℤ
  Σw = pos (total n w)

  abbrev first : ℕ → ℤ
  first i = pos (w i) *ℤ o i

  abbrev second : ℕ → ℤ
  second i = pos (w i) *ℤ (o i *ℤ o i)

  -- what multiplies w·o in w·(v − m·o)²
  abbrev mixed : ℤ
  mixed = neg_ℤ (pos 2 *ℤ m *ℤ v)

  column : sum n (λ i. weighted (w i) (v -ℤ m *ℤ o i))
      ≡ Σw *ℤ (v *ℤ v) -ℤ pos 2 *ℤ m *ℤ (sum n first *ℤ v) +ℤ m *ℤ m *ℤ sum n second
  column =
      sum_cong n (λ i _. ring (pos (w i) ∷ v ∷ m ∷ o i ∷ [])
      (λ w v m o. w ⊠ ((v ⊟ m ⊠ o) ⊠ (v ⊟ m ⊠ o)) ≐ w ⊠ (v ⊠ v) ⊞ (⊖ (num 2 ⊠ m ⊠ v) ⊠ (w ⊠ o) ⊞ m ⊠ m ⊠ (w ⊠ (o ⊠ o)))) tt)
      ∙ sum-+ n (λ i. pos (w i) *ℤ (v *ℤ v)) (λ i. mixed *ℤ first i +ℤ m *ℤ m *ℤ second i)
      ∙ ap₂ ◌+ℤ◌
      (sum_scale_right n (v *ℤ v) (λ i. pos (w i)) ∙ ap (λ z. z *ℤ (v *ℤ v)) (sym (pos_total n w)))
      (sum-+ n (λ i. mixed *ℤ first i) (λ i. m *ℤ m *ℤ second i) ∙ ap₂ ◌+ℤ◌ (sum_scale n mixed first) (sum_scale n (m *ℤ m) second))
      ∙ ring (Σw ∷ v ∷ m ∷ sum n first ∷ sum n second ∷ [])
      (λ w v m s t. w ⊠ (v ⊠ v) ⊞ (⊖ (num 2 ⊠ m ⊠ v) ⊠ s ⊞ m ⊠ m ⊠ t) ≐ w ⊠ (v ⊠ v) ⊟ num 2 ⊠ m ⊠ (s ⊠ v) ⊞ m ⊠ m ⊠ t) tt

  column_and_prior : pos (s + total n w) *ℤ (v *ℤ v) -ℤ pos 2 *ℤ m *ℤ ((pos s *ℤ prior +ℤ sum n first) *ℤ v)
      +ℤ m *ℤ m *ℤ (pos s *ℤ (prior *ℤ prior) +ℤ sum n second)
      ≡ sum n (λ i. weighted (w i) (v -ℤ m *ℤ o i)) +ℤ weighted s (v -ℤ m *ℤ prior)
  column_and_prior =
      ring (Σw ∷ pos s ∷ prior ∷ v ∷ m ∷ sum n first ∷ sum n second ∷ [])
      (λ w s p v m x y. (s ⊞ w) ⊠ (v ⊠ v) ⊟ num 2 ⊠ m ⊠ ((s ⊠ p ⊞ x) ⊠ v) ⊞ m ⊠ m ⊠ (s ⊠ (p ⊠ p) ⊞ y)
      ≐ w ⊠ (v ⊠ v) ⊟ num 2 ⊠ m ⊠ (x ⊠ v) ⊞ m ⊠ m ⊠ y ⊞ s ⊠ ((v ⊟ m ⊠ p) ⊠ (v ⊟ m ⊠ p))) tt
      ∙ ap (λ z. z +ℤ weighted s (v -ℤ m *ℤ prior)) (sym column)

module _ (c : Chain) where
  abbrev J : ℕ
  J = c.last

  -- a sum over the parts, Φ and Ψ apart
  pub sum_by_part : (f : ℕ → ℤ) → sum (parts J) f ≡ sum (J + 1) f +ℤ sum J (λ j. f (psi_index J j))
  sum_by_part f = ap (λ n. sum n f) (count J) ∙ sum_split (J + 1) J f
    where
      count : (J : ℕ) → 2 * J + 1 ≡ J + 1 + J
      count J = omega arith

  -- ---- the combination of development year d is the ratio of accident year J − d

  module _ (u : Vector) (d : ℕ) (below : d < J) where
    abbrev factor : ℕ → ℤ
    factor = (loss_form c).factor d

    -- the factor of a part of this kind
    abbrev factor_of : Part → ℤ
    factor_of a = only (ltb d (rank_of a)) (sign_of a)

    phi_side : sum (J + 1) (λ j. factor j *ℤ u j) ≡ sum (J - d) (λ m. phi c u (J - (J - d) + 1 + m))
    phi_side =
        sum_cong (J + 1) (λ j h. ap (λ a. factor_of a *ℤ u j) (part_by_index_phi J j (omega arith)) ∙ picked (ltb d j) (u j))
        ∙ sum_from (J + 1) (suc d) u (omega arith)
        ∙ ap (λ n. sum n (λ m. u (suc d + m))) count
        ∙ sum_cong (J - d) (λ m _. ap u (place m))
      where
        picked : (t : Bool) (v : ℤ) → only t (pos 1) *ℤ v ≡ only t v
        picked true v = *ℤ_idl v
        picked false v = zero-*ℤ v

        count : J + 1 - suc d ≡ J - d
        count = omega arith

        place : (m : ℕ) → suc d + m ≡ J - (J - d) + 1 + m
        place m = omega arith

    psi_side : sum J (λ j. factor (psi_index J j) *ℤ psi c u j) ≡ neg_ℤ (sum (J - d) (λ n. psi c u (J - (J - d) + n)))
    psi_side =
        sum_cong J (λ j _. ap (λ a. factor_of a *ℤ psi c u j) (part_by_index_psi J j)
        ∙ ap (λ t. only t (negsuc 0) *ℤ psi c u j) (ap (ltb d) (add-one j) ∙ leb-suc-suc d j)
        ∙ picked (leb d j) (psi c u j))
        ∙ sum_from J d (λ j. neg_ℤ (psi c u j)) (omega arith)
        ∙ sum_neg (J - d) (λ n. psi c u (d + n))
        ∙ ap neg_ℤ (sum_cong (J - d) (λ n _. ap (psi c u) (place n)))
      where
        picked : (t : Bool) (v : ℤ) → only t (negsuc 0) *ℤ v ≡ only t (neg_ℤ v)
        picked true v = ring (v ∷ []) (λ v. ⊖ num 1 ⊠ v ≐ ⊖ v) tt
        picked false v = zero-*ℤ v

        place : (n : ℕ) → d + n ≡ J - (J - d) + n
        place n = omega arith

    pub combined_is_ratio : combined (loss_form c) u d ≡ ratio c u (J - d)
    unfolding ratio
    combined_is_ratio = sum_by_part (λ k. factor k *ℤ u k) ∙ ap₂ ◌+ℤ◌ phi_side psi_side

  -- ---- the loss

  module _ (m : ℕ) (u : Vector) where
    -- the terms of the loss: a part's own observations, its prior, the ratio of accident year k + 1
    abbrev own_terms : Part → ℤ → ℤ
    own_terms (Φ j) v = sum (J - j + 1) (λ i. weighted (c.p i j) (v -ℤ pos m *ℤ c.x i j))
    own_terms (Ψ j) v = sum (J - j) (λ i. weighted (c.q i j) (v -ℤ pos m *ℤ c.z i j))

    abbrev prior_term : Part → ℤ → ℤ
    prior_term (Φ j) v = weighted (c.s j) (v -ℤ pos m *ℤ c.prior_Φ j)
    prior_term (Ψ j) v = weighted (c.t j) (v -ℤ pos m *ℤ c.prior_Ψ j)

    abbrev ratio_term : ℕ → ℤ
    ratio_term k = weighted (c.g (J - (k + 1))) (ratio c u (k + 1) -ℤ pos m *ℤ c.y (k + 1))

    abbrev own_quadratic : Part → ℤ → ℤ
    own_quadratic a v = pos (own_of c a) *ℤ (v *ℤ v) -ℤ pos 2 *ℤ pos m *ℤ (firsts_of c a *ℤ v) +ℤ pos m *ℤ pos m *ℤ seconds_of c a

    own_terms_lem : (a : Part) (v : ℤ) → own_quadratic a v ≡ own_terms a v +ℤ prior_term a v
    own_terms_lem (Φ j) v = column_and_prior (λ i. c.p i j) (J - j + 1) (c.s j) (λ i. c.x i j) (c.prior_Φ j) (pos m) v
    own_terms_lem (Ψ j) v = column_and_prior (λ i. c.q i j) (J - j) (c.t j) (λ i. c.z i j) (c.prior_Ψ j) (pos m) v

    own_phi : (j : ℕ) → j < J + 1 → own_term (loss_form c) (pos m) u j ≡ own_terms (Φ j) (u j) +ℤ prior_term (Φ j) (u j)
    unfolding own
    own_phi j below = ap (λ a. own_quadratic a (u j)) (part_by_index_phi J j (omega arith)) ∙ own_terms_lem (Φ j) (u j)

    own_psi : (j : ℕ) → own_term (loss_form c) (pos m) u (psi_index J j) ≡ own_terms (Ψ j) (psi c u j) +ℤ prior_term (Ψ j) (psi c u j)
    unfolding own
    own_psi j = ap (λ a. own_quadratic a (psi c u j)) (part_by_index_psi J j) ∙ own_terms_lem (Ψ j) (psi c u j)

    ratio_terms : sum J (combined_term (loss_form c) (pos m) u) ≡ sum J ratio_term
    ratio_terms = sum_reverse J (combined_term (loss_form c) (pos m) u) ∙ sum_cong J of_year
      where
        development : (k : ℕ) → J - 1 - k ≡ J - (k + 1)
        development k = omega arith

        accident : (k : ℕ) → k < J → J - (J - 1 - k) ≡ k + 1
        accident k h = omega arith

        of_year : (k : ℕ) → k < J → combined_term (loss_form c) (pos m) u (J - 1 - k) ≡ ratio_term k
        of_year k below =
            let d : ℕ = J - 1 - k in
            ap (λ s. weighted (c.g d) (s -ℤ pos m *ℤ c.y (J - d))) (combined_is_ratio u d (omega arith))
            ∙ ap₂ (λ d i. weighted (c.g d) (ratio c u i -ℤ pos m *ℤ c.y i)) (development k) (accident k below)

    pub loss_is_form : loss_times c m u ≡ form_loss (loss_form c) (pos m) u
    unfolding loss_times
    loss_is_form = sym (
        ap₂ ◌+ℤ◌ (sum_by_part (own_term (loss_form c) (pos m) u) ∙ ap₂ ◌+ℤ◌ phi_terms psi_terms) ratio_terms
        ∙ ring (sum (J + 1) paid ∷ sum (J + 1) priors_Φ ∷ sum J incurred ∷ sum J priors_Ψ ∷ sum J ratio_term ∷ [])
        (λ p s q t g. p ⊞ s ⊞ (q ⊞ t) ⊞ g ≐ p ⊞ q ⊞ g ⊞ s ⊞ t) tt)
      where
        paid : ℕ → ℤ
        paid j = own_terms (Φ j) (phi c u j)

        priors_Φ : ℕ → ℤ
        priors_Φ j = prior_term (Φ j) (phi c u j)

        incurred : ℕ → ℤ
        incurred j = own_terms (Ψ j) (psi c u j)

        priors_Ψ : ℕ → ℤ
        priors_Ψ j = prior_term (Ψ j) (psi c u j)

        phi_terms : sum (J + 1) (own_term (loss_form c) (pos m) u) ≡ sum (J + 1) paid +ℤ sum (J + 1) priors_Φ
        phi_terms = sum_cong (J + 1) own_phi ∙ sum-+ (J + 1) paid priors_Φ

        psi_terms : sum J (λ j. own_term (loss_form c) (pos m) u (psi_index J j)) ≡ sum J incurred +ℤ sum J priors_Ψ
        psi_terms = sum_cong J (λ j _. own_psi j) ∙ sum-+ J incurred priors_Ψ
