-- Theorem 3.4 of the paper on rounded weights: the specification's loss is a `Form`, and its matrix, right-hand side and residue
-- are that form's, so that they are exactly the coefficients of the loss.
use Rattle.std.specs.Prelude.{ℕ, ◌+◌, ◌-◌, ◌≤◌, ◌<◌, min, ◌≡◌, [], ◌∷◌, Bool, true, false, T, ltb, eqb, ℤ, ◌+ℤ◌, ◌-ℤ◌, ◌*ℤ◌}
use Rattle.std.proofs.Math.Path.{sym, ap, ap₂}
use Rattle.std.proofs.Common.{◌∙◌, arith, ltb→lt, lt→ltb}
use Rattle.std.proofs.Math.IntN.{pos}
use Rattle.integers.specs.Ring.{*ℤ_idl}
use Rattle.integers.specs.Solver.{ring, ◌⊞◌, ◌⊟◌, ◌⊠◌, ⊖◌, num, ◌≐◌}
use Rattle.integers.specs.Sum.{sum, sum_cong, sum_scale}
use Rattle.integers.specs.SumRange.{only, sum_reverse, sum_below}
use Rattle.definitions.specs.Layout.{parts}
use Rattle.definitions.specs.Loss.{Vector}
use Rattle.definitions.specs.Observations.{Chain}
use Rattle.definitions.specs.Matrix.{Part, Φ, Ψ, part_by_index, own, matrix, shared_by, ratios_of_last, target_of, right_hand_side, residue_times}
use Rattle.laws.specs.PrecisionMatrix.{firsts_of, loss_form}
use Rattle.laws.proofs.Quadratic.{form_matrix, form_target, form_residue, residue_by_observation}
use Rattle.laws.specs.Ranks.{rank_of, sign_of}
use Rattle.laws.proofs.Ranks.{rank_below, matrix_by_ranks}

module _ (c : Chain) where
  abbrev J : ℕ
  J = c.last

  -- ---- matrix and right-hand side

  -- g_d counts at two parts exactly if d is below both ranks
  shared : (a b : ℕ) (s t : ℤ) → a ≤ J
      → sum J (λ d. pos (c.g d) *ℤ (only (ltb d a) s *ℤ only (ltb d b) t)) ≡ s *ℤ t *ℤ shared_by c (min a b)
  shared a b s t below =
      sum_cong J (λ d _. picked (pos (c.g d)) (ltb d a) (ltb d b) (ltb d (min a b))
      (λ h k. lt→ltb d (min a b) (both (ltb→lt d a h) (ltb→lt d b k)))
      (λ h. lt→ltb d a (left (ltb→lt d (min a b) h)))
      (λ h. lt→ltb d b (right (ltb→lt d (min a b) h))))
      ∙ sum_below J (min a b) (λ d. s *ℤ t *ℤ pos (c.g d)) (omega arith)
      ∙ sum_scale (min a b) (s *ℤ t) (λ d. pos (c.g d))
    where
      both : {d : ℕ} → d < a → d < b → d < min a b
      both h k = omega arith

      left : {d : ℕ} → d < min a b → d < a
      left h = omega arith

      right : {d : ℕ} → d < min a b → d < b
      right h = omega arith

      picked : (g : ℤ) (p q r : Bool) → (T p → T q → T r) → (T r → T p) → (T r → T q)
          → g *ℤ (only p s *ℤ only q t) ≡ only r (s *ℤ t *ℤ g)
      picked g true true true f l r = ring (g ∷ s ∷ t ∷ []) (λ g s t. g ⊠ (s ⊠ t) ≐ s ⊠ t ⊠ g) tt
      picked g true true false f l r = absurd (f tt tt)
      picked g true false true f l r = absurd (r tt)
      picked g true false false f l r = ring (g ∷ s ∷ []) (λ g s. g ⊠ (s ⊠ num 0) ≐ num 0) tt
      picked g false q true f l r = absurd (l tt)
      picked g false true false f l r = ring (g ∷ t ∷ []) (λ g t. g ⊠ (num 0 ⊠ t) ≐ num 0) tt
      picked g false false false f l r = ring (g ∷ []) (λ g. g ⊠ (num 0 ⊠ num 0) ≐ num 0) tt

  pub matrix_is_form : (k l : ℕ) → k < parts J → l < parts J → matrix c k l ≡ form_matrix (loss_form c) k l
  matrix_is_form k l k-below l-below =
      let a : Part = part_by_index J k in
      let b : Part = part_by_index J l in
      matrix_by_ranks c k l k-below l-below
      ∙ ap (λ z. only (eqb k l) (pos (own c k)) +ℤ z) (sym (shared (rank_of a) (rank_of b) (sign_of a) (sign_of b) (rank_below J k k-below)))

  -- a sum over the last n accident years i, by the development year d = J − i
  pub by_development : (h : ℕ → ℕ → ℤ) (n : ℕ) → n ≤ J
      → sum n (λ k. h (J - (J - n + 1 + k)) (J - n + 1 + k)) ≡ sum n (λ d. h d (J - d))
  by_development h n below = sum_cong n (λ k past. ap₂ h (year k past) (accident k past)) ∙ sym (sum_reverse n (λ d. h d (J - d)))
    where
      year : (k : ℕ) → k < n → J - (J - n + 1 + k) ≡ n - 1 - k
      year k past = omega arith

      accident : (k : ℕ) → k < n → J - n + 1 + k ≡ J - (n - 1 - k)
      accident k past = omega arith

  pub ratios_by_development : (n : ℕ) → n ≤ J → ratios_of_last c n ≡ sum n (λ d. pos (c.g d) *ℤ c.y (J - d))
  ratios_by_development n below = by_development (λ d i. pos (c.g d) *ℤ c.y i) n below

  -- what the combinations' values come to at a part is decided by its rank and sign
  pub felt_by_rank : (v : ℕ → ℤ) (a : ℕ) (s : ℤ) → a ≤ J
      → sum J (λ d. pos (c.g d) *ℤ (only (ltb d a) s *ℤ v d)) ≡ s *ℤ sum a (λ d. pos (c.g d) *ℤ v d)
  felt_by_rank v a s below =
      sum_cong J (λ d _. picked (pos (c.g d)) (v d) (ltb d a))
      ∙ sum_below J a (λ d. s *ℤ (pos (c.g d) *ℤ v d)) below
      ∙ sum_scale a s (λ d. pos (c.g d) *ℤ v d)
    where
      picked : (g y : ℤ) (p : Bool) → g *ℤ (only p s *ℤ y) ≡ only p (s *ℤ (g *ℤ y))
      picked g y true = ring (g ∷ s ∷ y ∷ []) (λ g s y. g ⊠ (s ⊠ y) ≐ s ⊠ (g ⊠ y)) tt
      picked g y false = ring (g ∷ y ∷ []) (λ g y. g ⊠ (num 0 ⊠ y) ≐ num 0) tt

  pub target_by_rank : (a : Part) → target_of c a ≡ firsts_of c a +ℤ sign_of a *ℤ ratios_of_last c (rank_of a)
  target_by_rank (Φ j) = ap (λ z. firsts_of c (Φ j) +ℤ z) (sym (*ℤ_idl (ratios_of_last c j)))
  target_by_rank (Ψ j) = ring (firsts_of c (Ψ j) ∷ ratios_of_last c (j + 1) ∷ []) (λ f r. f ⊟ r ≐ f ⊞ ⊖ num 1 ⊠ r) tt

  pub target_is_form : (k : ℕ) → k < parts J → right_hand_side c k ≡ form_target (loss_form c) k
  unfolding right_hand_side
  target_is_form k below =
      let a : Part = part_by_index J k in
      target_by_rank a
      ∙ ap (λ z. firsts_of c a +ℤ z)
      (ap (λ z. sign_of a *ℤ z) (ratios_by_development (rank_of a) (rank_below J k below))
      ∙ sym (felt_by_rank (λ d. c.y (J - d)) (rank_of a) (sign_of a) (rank_below J k below)))

  -- the residue by the matrix is the residue observation by observation
  pub residue_is_form : (m : ℕ) (u : Vector) (k : ℕ) → k < parts J → residue_times c m u k ≡ form_residue (loss_form c) (pos m) u k
  unfolding residue_times
  residue_is_form m u k below =
      let row = sum_cong (parts J) (λ l l-below. ap (λ z. z *ℤ u l) (matrix_is_form k l below l-below)) in
      ap₂ (λ a b. a -ℤ pos m *ℤ b) row (target_is_form k below)
      ∙ residue_by_observation (loss_form c) (pos m) u k below
