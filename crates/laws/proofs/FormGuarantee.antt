-- What a mean of small residues is worth for a loss of `Quadratic`: nearly least, near, and strictly least where its residues are 0.
use Rattle.std.specs.Prelude.{ℕ, ◌*◌, ◌≤◌, ◌<◌, ◌≡◌, ◌≢◌, [], ◌∷◌, ℤ, pos, neg_ℤ, nat_abs, ◌+ℤ◌, ◌*ℤ◌, ◌≤ℤ◌, ◌<ℤ◌}
use Rattle.std.proofs.Common.{sym, ap, ◌∙◌}
use Rattle.std.proofs.Math.IntN.{zero-*ℤ}
use Rattle.integers.specs.Certificate.{mixed_neg-≤}
use Rattle.integers.specs.Linear.{linear, zarith}
use Rattle.integers.specs.Order.{square_nonneg, square_positive, pos_nonneg, pos-<, *ℤ_nonneg, *ℤ_positive, ≤ℤ_trans, ≤ℤ_of-≡}
use Rattle.integers.specs.Ring.{≡ℤ_is_zero}
use Rattle.integers.specs.Solver.{ring, ◌⊞◌, ◌⊠◌, ◌≐◌}
use Rattle.integers.specs.Sum.{sum, total, sum_cong, sum-+, sum_neg, sum_scale, sum_scale_right, sum_zeros}
use Rattle.integers.specs.SumOrder.{sum_mono, sum_nonneg, sum_positive}
use Rattle.integers.specs.Total.{pos_total}
use Rattle.definitions.specs.Loss.{Vector}
use Rattle.laws.specs.FormGuarantee.{form_slack}
use Rattle.laws.specs.Quadratic.{Form}
use Rattle.laws.proofs.Quadratic.{combined, form_loss, form_residue, apart, own_squares, combined_squares, along, expansion, zero_residues_along}

module _ (q : Form) (e : ℕ) (μ : Vector) where
  combined_nonneg : (w : Vector) → pos 0 ≤ℤ combined_squares q w
  combined_nonneg w = sum_nonneg q.combinations (λ d _. *ℤ_nonneg (pos_nonneg (q.weight d)) (square_nonneg (combined q w d)))

  -- −2m·(residues along w) ≤ ΣD·w² + m²e²ΣD
  pub along_bounded : ((k : ℕ) → k < q.parts → nat_abs (form_residue q (pos 1) μ k) ≤ e * q.own k) → (m : ℕ) (w : Vector)
      → neg_ℤ (pos 2 *ℤ pos m *ℤ along q μ w) ≤ℤ (own_squares q w +ℤ form_slack q e m)
  along_bounded small m w = ≤ℤ_trans (≤ℤ_of-≡ into) (≤ℤ_trans (sum_mono q.parts bound) (≤ℤ_of-≡ out))
    where
      n : ℕ
      n = q.parts

      D : ℕ → ℤ
      D k = pos (q.own k)

      r : ℕ → ℤ
      r k = form_residue q (pos 1) μ k

      -- m²e²
      t : ℤ
      t = pos m *ℤ pos m *ℤ (pos e *ℤ pos e)

      bound : (k : ℕ) → k < n → neg_ℤ (pos 2 *ℤ pos m *ℤ (r k *ℤ w k)) ≤ℤ (D k *ℤ (w k *ℤ w k +ℤ t))
      bound k below = mixed_neg-≤ m e (q.own k) (r k) (w k) (small k below)

      into : neg_ℤ (pos 2 *ℤ pos m *ℤ along q μ w) ≡ sum n (λ k. neg_ℤ (pos 2 *ℤ pos m *ℤ (r k *ℤ w k)))
      into = sym (sum_neg n (λ k. pos 2 *ℤ pos m *ℤ (r k *ℤ w k)) ∙ ap neg_ℤ (sum_scale n (pos 2 *ℤ pos m) (λ k. r k *ℤ w k)))

      slack : sum n (λ k. D k *ℤ t) ≡ form_slack q e m
      slack =
          sum_scale_right n t D
          ∙ ap (λ z. z *ℤ t) (sym (pos_total n q.own))
          ∙ ring (pos (total n q.own) ∷ pos m ∷ pos e ∷ []) (λ t m e. t ⊠ (m ⊠ m ⊠ (e ⊠ e)) ≐ m ⊠ m ⊠ (e ⊠ e ⊠ t)) tt

      out : sum n (λ k. D k *ℤ (w k *ℤ w k +ℤ t)) ≡ own_squares q w +ℤ form_slack q e m
      out =
          sum_cong n (λ k _. ring (D k ∷ (w k *ℤ w k) ∷ t ∷ []) (λ d s t. d ⊠ (s ⊞ t) ≐ d ⊠ s ⊞ d ⊠ t) tt)
          ∙ sum-+ n (λ k. D k *ℤ (w k *ℤ w k)) (λ k. D k *ℤ t)
          ∙ ap (λ z. own_squares q w +ℤ z) slack

  module _ (small : (k : ℕ) → k < q.parts → nat_abs (form_residue q (pos 1) μ k) ≤ e * q.own k) where
    pub nearly_least : (m : ℕ) (u : Vector) → (pos (m * m) *ℤ form_loss q (pos 1) μ) ≤ℤ (form_loss q (pos m) u +ℤ form_slack q e m)
    nearly_least m u =
        let w : Vector = apart q (pos m) u μ in
        let bound = along_bounded small m w in
        let others = combined_nonneg w in
        rw (expansion q (pos m) u μ) (simp linear (omega (zarith, simp linear at bound, simp linear at others)))

    pub near : (m : ℕ) (u : Vector) → ((k : ℕ) → k < q.parts → form_residue q (pos m) u k ≡ pos 0)
        → own_squares q (apart q (pos m) u μ) ≤ℤ form_slack q e m
    near m u none =
        let w : Vector = apart q (pos m) u μ in
        let bound = along_bounded small m w in
        let others = combined_nonneg w in
        let balance = zero_residues_along q (pos m) u μ none in
        simp linear (omega (zarith, simp linear at bound, simp linear at others, simp linear at balance))

  pub strictly_least : ((k : ℕ) → k < q.parts → 1 ≤ q.own k) → ((k : ℕ) → k < q.parts → form_residue q (pos 1) μ k ≡ pos 0)
      → (m : ℕ) (u : Vector) (k : ℕ) → k < q.parts → u k ≢ pos m *ℤ μ k
      → (pos (m * m) *ℤ form_loss q (pos 1) μ) <ℤ form_loss q (pos m) u
  strictly_least owned none m u k below differs =
      let w : Vector = apart q (pos m) u μ in
      let no_residue : along q μ w ≡ pos 0 = sum_zeros q.parts (λ l l-below. ap (λ z. z *ℤ w l) (none l l-below) ∙ zero-*ℤ (w l)) in
      let some : pos 0 <ℤ own_squares q w =
      sum_positive q.parts k below (λ l _. *ℤ_nonneg (pos_nonneg (q.own l)) (square_nonneg (w l)))
      (*ℤ_positive (pos-<.0 (owned k below)) (square_positive (λ same. differs (≡ℤ_is_zero.1 same)))) in
      let others = combined_nonneg w in
      rw (expansion q (pos m) u μ, no_residue) (simp linear (omega (zarith, simp linear at some, simp linear at others)))
