-- Theorem 3.4 of the paper, on rounded weights and in the specification's terms: for every vector the residue by the matrix is
-- the residue observation by observation, and the loss of u/m expands around a mean with that residue and matrix as its coefficients.
use Rattle.std.specs.Prelude.{ℕ, ◌+◌, ◌-◌, ◌<◌, ◌≡◌, refl, [], ◌∷◌, ℤ, negsuc, ◌+ℤ◌, ◌-ℤ◌, ◌*ℤ◌}
use Rattle.std.proofs.Common.{sym, ap, ◌∙◌, arith}
use Rattle.std.proofs.Math.Path.{ap₂}
use Rattle.std.proofs.Math.IntN.{pos}
use Rattle.integers.specs.Ring.{*ℤ_idl}
use Rattle.integers.specs.Solver.{ring, ◌⊞◌, ◌⊟◌, ◌⊠◌, ⊖◌, num, ◌≐◌}
use Rattle.integers.specs.Sum.{sum, total, sum_cong, sum_scale, sum_scale_right, sum--}
use Rattle.integers.specs.Total.{pos_total}
use Rattle.definitions.specs.Layout.{parts}
use Rattle.definitions.specs.Loss.{Vector, phi, psi, weighted, ratio, loss, loss_times}
use Rattle.definitions.specs.Observations.{Chain}
use Rattle.definitions.specs.Matrix.{Part, Φ, Ψ, part_by_index, own_of, own, residue_times}
use Rattle.definitions.specs.Residues.{residue_by, observed_times}
use Rattle.laws.proofs.Quadratic.{missed, felt, apart, expansion}
use Rattle.laws.proofs.LossForm.{combined_is_ratio, loss_is_form}
use Rattle.laws.proofs.PrecisionMatrix.{by_development, felt_by_rank, residue_is_form}
use Rattle.laws.specs.PrecisionMatrix.{loss_form, firsts_of}
use Rattle.laws.specs.Ranks.{rank_of, sign_of}
use Rattle.laws.proofs.Ranks.{part_by_index_phi, part_by_index_psi, by_part, rank_below}

-- n observations with their weights: the sum of weight times difference
column : (w : ℕ → ℕ) (n : ℕ) (o : ℕ → ℤ) (m v : ℤ)
    → sum n (λ i. pos (w i) *ℤ (v -ℤ m *ℤ o i)) ≡ pos (total n w) *ℤ v -ℤ m *ℤ sum n (λ i. pos (w i) *ℤ o i)
column w n o m v =
    sum_cong n (λ i _. ring (pos (w i) ∷ v ∷ m ∷ o i ∷ []) (λ w v m o. w ⊠ (v ⊟ m ⊠ o) ≐ w ⊠ v ⊟ m ⊠ (w ⊠ o)) tt)
    ∙ sum-- n (λ i. pos (w i) *ℤ v) (λ i. m *ℤ (pos (w i) *ℤ o i))
    ∙ ap₂ ◌-ℤ◌
    (sum_scale_right n v (λ i. pos (w i)) ∙ ap (λ z. z *ℤ v) (sym (pos_total n w)))
    (sum_scale n m (λ i. pos (w i) *ℤ o i))

module _ (c : Chain) where
  abbrev J : ℕ
  J = c.last

  module _ (m : ℕ) (u : Vector) where
    -- Σ g_(J−i)·(what the vector misses y_i by) over the last n accident years
    abbrev pub ratios_missed : ℕ → ℤ
    ratios_missed n = sum n (λ k. let i : ℕ = J - n + 1 + k in pos (c.g (J - i)) *ℤ (ratio c u i -ℤ pos m *ℤ c.y i))

    -- weight times difference: the prior and the part's own observations, then the ratios that it shares in
    abbrev own_missed : Part → ℤ → ℤ
    own_missed (Φ j) v = pos (c.s j) *ℤ (v -ℤ pos m *ℤ c.prior_Φ j) +ℤ sum (J - j + 1) (λ i. pos (c.p i j) *ℤ (v -ℤ pos m *ℤ c.x i j))
    own_missed (Ψ j) v = pos (c.t j) *ℤ (v -ℤ pos m *ℤ c.prior_Ψ j) +ℤ sum (J - j) (λ i. pos (c.q i j) *ℤ (v -ℤ pos m *ℤ c.z i j))

    abbrev pub observed_residue : Part → ℤ → ℤ
    observed_residue (Φ j) v = own_missed (Φ j) v +ℤ ratios_missed j
    observed_residue (Ψ j) v = own_missed (Ψ j) v -ℤ ratios_missed (j + 1)

    own_side_lem : (w : ℕ → ℕ) (n s : ℕ) (o : ℕ → ℤ) (prior v : ℤ)
        → pos (s + total n w) *ℤ v -ℤ pos m *ℤ (pos s *ℤ prior +ℤ sum n (λ i. pos (w i) *ℤ o i))
        ≡ pos s *ℤ (v -ℤ pos m *ℤ prior) +ℤ sum n (λ i. pos (w i) *ℤ (v -ℤ pos m *ℤ o i))
    own_side_lem w n s o prior v =
        ring (pos s ∷ pos (total n w) ∷ v ∷ pos m ∷ prior ∷ sum n (λ i. pos (w i) *ℤ o i) ∷ [])
        (λ s w v m p x. (s ⊞ w) ⊠ v ⊟ m ⊠ (s ⊠ p ⊞ x) ≐ s ⊠ (v ⊟ m ⊠ p) ⊞ (w ⊠ v ⊟ m ⊠ x)) tt
        ∙ ap (λ z. pos s *ℤ (v -ℤ pos m *ℤ prior) +ℤ z) (sym (column w n o (pos m) v))

    by_kind : (a : Part) (v : ℤ)
        → pos (own_of c a) *ℤ v -ℤ pos m *ℤ firsts_of c a +ℤ sign_of a *ℤ ratios_missed (rank_of a) ≡ observed_residue a v
    by_kind (Φ j) v = ap₂ ◌+ℤ◌ (own_side_lem (λ i. c.p i j) (J - j + 1) (c.s j) (λ i. c.x i j) (c.prior_Φ j) v) (*ℤ_idl (ratios_missed j))
    by_kind (Ψ j) v =
        ap (λ z. z +ℤ negsuc 0 *ℤ ratios_missed (j + 1)) (own_side_lem (λ i. c.q i j) (J - j) (c.t j) (λ i. c.z i j) (c.prior_Ψ j) v)
        ∙ ring (own_missed (Ψ j) v ∷ ratios_missed (j + 1) ∷ []) (λ o r. o ⊞ ⊖ num 1 ⊠ r ≐ o ⊟ r) tt

    felt_is_missed : (k : ℕ) → k < parts J → let a : Part = part_by_index J k in
        felt (loss_form c) k (missed (loss_form c) (pos m) u) ≡ sign_of a *ℤ ratios_missed (rank_of a)
    felt_is_missed k below =
        let a : Part = part_by_index J k in
        let in_years = rank_below J k below in
        felt_by_rank c (missed (loss_form c) (pos m) u) (rank_of a) (sign_of a) in_years
        ∙ ap (λ z. sign_of a *ℤ z)
        (sum_cong (rank_of a) (λ d past. ap (λ s. pos (c.g d) *ℤ (s -ℤ pos m *ℤ c.y (J - d))) (combined_is_ratio c u d (omega arith)))
        ∙ sym (by_development c (λ d i. pos (c.g d) *ℤ (ratio c u i -ℤ pos m *ℤ c.y i)) (rank_of a) in_years))

    pub residue_by_observations : (k : ℕ) → k < parts J → residue_times c m u k ≡ observed_residue (part_by_index J k) (u k)
    unfolding own
    residue_by_observations k below =
        residue_is_form c m u k below
        ∙ ap (λ z. pos (own_of c (part_by_index J k)) *ℤ u k -ℤ pos m *ℤ firsts_of c (part_by_index J k) +ℤ z) (felt_is_missed k below)
        ∙ by_kind (part_by_index J k) (u k)

    -- in the definitions' words
    abbrev at : Part → ℤ
    at (Φ j) = phi c u j
    at (Ψ j) = psi c u j

    part_at : (k : ℕ) → k < parts J → u k ≡ at (part_by_index J k)
    part_at =
        by_part J (λ k. u k ≡ at (part_by_index J k))
        (λ j below. ap at (sym (part_by_index_phi J j below)))
        (λ j below. ap at (sym (part_by_index_psi J j)))

    as_defined : (a : Part) → observed_residue a (at a) ≡ residue_by c m u a
    as_defined (Φ j) = refl
    as_defined (Ψ j) = refl

    pub residue_is_observed : (k : ℕ) → k < parts J → residue_times c m u k ≡ observed_times c m u k
    unfolding observed_times
    residue_is_observed k below =
        residue_by_observations k below ∙ ap (observed_residue (part_by_index J k)) (part_at k below) ∙ as_defined (part_by_index J k)

  -- the loss of u/m around a mean μ, w being u − m·μ: m²·loss(μ) + 2m·Σ residue·w + ΣD·w² + Σg·(ratio of w)²
  pub loss_expands : (m : ℕ) (u μ : Vector) → let w : Vector = λ k. u k -ℤ pos m *ℤ μ k in loss_times c m u
      ≡ pos m *ℤ pos m *ℤ loss c μ +ℤ pos 2 *ℤ pos m *ℤ sum (parts J) (λ k. residue_times c 1 μ k *ℤ w k)
      +ℤ (sum (parts J) (λ k. weighted (own c k) (w k)) +ℤ sum J (λ d. weighted (c.g d) (ratio c w (J - d))))
  loss_expands m u μ =
      let w : Vector = apart (loss_form c) (pos m) u μ in
      let residues = sum_cong (parts J) (λ k below. ap (λ r. r *ℤ w k) (sym (residue_is_form c 1 μ k below))) in
      let ratios = sum_cong J (λ d below. ap (λ s. weighted (c.g d) s) (combined_is_ratio c w d below)) in
      loss_is_form c m u
      ∙ expansion (loss_form c) (pos m) u μ
      ∙ ap₂ ◌+ℤ◌
      (ap₂ (λ l r. pos m *ℤ pos m *ℤ l +ℤ pos 2 *ℤ pos m *ℤ r) (sym (loss_is_form c 1 μ)) residues)
      (ap (λ s. sum (parts J) (λ k. weighted (own c k) (w k)) +ℤ s) ratios)
