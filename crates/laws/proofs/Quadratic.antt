-- A loss that is made of a quadratic of each part and of weighted squares of combinations of the parts, with its matrix, its
-- right-hand side and its expansion around a mean. The loss of the specification is one (`PrecisionMatrix`); nothing here counts
-- observations, so that a loss with fewer of them, or with priors of no weight, is one too.
use Rattle.std.specs.Prelude.{ℕ, ◌<◌, ◌≡◌, [], ◌∷◌, eqb, ℤ, pos, ◌+ℤ◌, ◌-ℤ◌, ◌*ℤ◌}
use Rattle.std.proofs.Common.{sym, ap, ap₂, ◌∙◌}
use Rattle.std.proofs.Math.IntN.{zero-*ℤ, *ℤ_comm}
use Rattle.integers.specs.Ring.{+ℤ-*ℤ}
use Rattle.integers.specs.Solver.{ring, ◌⊞◌, ◌⊟◌, ◌⊠◌, num, ◌≐◌}
use Rattle.integers.specs.Sum.{sum, sum_cong, sum-+, sum_scale, sum_scale_right, sum_swap, sum_zeros, sum--}
use Rattle.integers.specs.SumRange.{only, only_same, only_apart, sum_one}
use Rattle.definitions.specs.Loss.{Vector}
use Rattle.laws.specs.Quadratic.{Form}

module _ (q : Form) where
  open q use {parts, firsts, seconds, combinations, factor, observed}

  -- the weights, to multiply with: of part k, of combination d
  abbrev D : ℕ → ℤ
  D k = pos (q.own k)

  abbrev g : ℕ → ℤ
  g d = pos (q.weight d)

  abbrev pub combined : Vector → ℕ → ℤ
  combined u d = sum parts (λ k. factor d k *ℤ u k)

  abbrev pub own_term : ℤ → Vector → ℕ → ℤ
  own_term m u k = D k *ℤ (u k *ℤ u k) -ℤ pos 2 *ℤ m *ℤ (firsts k *ℤ u k) +ℤ m *ℤ m *ℤ seconds k

  -- what a combination misses its observation by
  abbrev pub missed : ℤ → Vector → ℕ → ℤ
  missed m u d = combined u d -ℤ m *ℤ observed d

  abbrev pub combined_term : ℤ → Vector → ℕ → ℤ
  combined_term m u d = g d *ℤ (missed m u d *ℤ missed m u d)

  -- the loss of u/m, times m²
  abbrev pub form_loss : ℤ → Vector → ℤ
  form_loss m u = sum parts (own_term m u) +ℤ sum combinations (combined_term m u)

  -- what the combinations' values v come to at part k
  abbrev pub felt : ℕ → (ℕ → ℤ) → ℤ
  felt k v = sum combinations (λ d. g d *ℤ (factor d k *ℤ v d))

  abbrev pub form_matrix : ℕ → ℕ → ℤ
  form_matrix k l = only (eqb k l) (D k) +ℤ felt k (λ d. factor d l)

  abbrev pub form_target : ℕ → ℤ
  form_target k = firsts k +ℤ felt k observed

  -- the residue, observation by observation
  abbrev pub form_residue : ℤ → Vector → ℕ → ℤ
  form_residue m u k = D k *ℤ u k -ℤ m *ℤ firsts k +ℤ felt k (missed m u)

  -- ---- the residue by the matrix is the residue observation by observation

  on_diagonal_lem : (u : Vector) (k : ℕ) → k < parts → sum parts (λ l. only (eqb k l) (D k) *ℤ u l) ≡ D k *ℤ u k
  on_diagonal_lem u k below =
      sum_one parts k below (λ l _ away. ap (λ z. z *ℤ u l) (only_apart k l (D k) (λ same. away (sym same))) ∙ zero-*ℤ (u l))
      ∙ ap (λ z. z *ℤ u k) (only_same k (D k))

  -- what the values v come to along a distance w
  felt_along : (v : ℕ → ℤ) (w : Vector) → sum parts (λ k. felt k v *ℤ w k) ≡ sum combinations (λ d. g d *ℤ (v d *ℤ combined w d))
  felt_along v w =
      sum_cong parts (λ k _. sym (sum_scale_right combinations (w k) (λ d. g d *ℤ (factor d k *ℤ v d))))
      ∙ sum_swap parts combinations (λ k d. g d *ℤ (factor d k *ℤ v d) *ℤ w k)
      ∙ sum_cong combinations (λ d _. of_one d)
    where
      of_one : (d : ℕ) → sum parts (λ k. g d *ℤ (factor d k *ℤ v d) *ℤ w k) ≡ g d *ℤ (v d *ℤ combined w d)
      of_one d =
          sum_cong parts (λ k _. ring (g d ∷ factor d k ∷ v d ∷ w k ∷ []) (λ g a x w. g ⊠ (a ⊠ x) ⊠ w ≐ g ⊠ x ⊠ (a ⊠ w)) tt)
          ∙ sum_scale parts (g d *ℤ v d) (λ k. factor d k *ℤ w k)
          ∙ ring (g d ∷ v d ∷ combined w d ∷ []) (λ g x s. g ⊠ x ⊠ s ≐ g ⊠ (x ⊠ s)) tt

  felt_symmetric : (k l : ℕ) → felt k (λ d. factor d l) ≡ felt l (λ d. factor d k)
  felt_symmetric k l = sum_cong combinations (λ d _. ap (λ z. g d *ℤ z) (*ℤ_comm (factor d k) (factor d l)))

  off_diagonal : (u : Vector) (k : ℕ) → sum parts (λ l. felt k (λ d. factor d l) *ℤ u l) ≡ felt k (combined u)
  off_diagonal u k = sum_cong parts (λ l _. ap (λ z. z *ℤ u l) (felt_symmetric k l)) ∙ felt_along (λ d. factor d k) u

  felt_missed : (m : ℤ) (u : Vector) (k : ℕ) → felt k (missed m u) ≡ felt k (combined u) -ℤ m *ℤ felt k observed
  felt_missed m u k =
      sum_cong combinations (λ d _. ring (g d ∷ factor d k ∷ combined u d ∷ m ∷ observed d ∷ [])
      (λ w a s m y. w ⊠ (a ⊠ (s ⊟ m ⊠ y)) ≐ w ⊠ (a ⊠ s) ⊟ m ⊠ (w ⊠ (a ⊠ y))) tt)
      ∙ sum-- combinations (λ d. g d *ℤ (factor d k *ℤ combined u d)) (λ d. m *ℤ (g d *ℤ (factor d k *ℤ observed d)))
      ∙ ap (λ z. felt k (combined u) -ℤ z) (sum_scale combinations m (λ d. g d *ℤ (factor d k *ℤ observed d)))

  pub residue_by_observation : (m : ℤ) (u : Vector) (k : ℕ) → k < parts
      → sum parts (λ l. form_matrix k l *ℤ u l) -ℤ m *ℤ form_target k ≡ form_residue m u k
  residue_by_observation m u k below =
      ap (λ z. z -ℤ m *ℤ form_target k) rows
      ∙ ring ((D k *ℤ u k) ∷ felt k (combined u) ∷ m ∷ firsts k ∷ felt k observed ∷ [])
      (λ o s m b t. o ⊞ s ⊟ m ⊠ (b ⊞ t) ≐ o ⊟ m ⊠ b ⊞ (s ⊟ m ⊠ t)) tt
      ∙ ap (λ z. D k *ℤ u k -ℤ m *ℤ firsts k +ℤ z) (sym (felt_missed m u k))
    where
      rows : sum parts (λ l. form_matrix k l *ℤ u l) ≡ D k *ℤ u k +ℤ felt k (combined u)
      rows =
          sum_cong parts (λ l _. +ℤ-*ℤ (only (eqb k l) (D k)) (felt k (λ d. factor d l)) (u l))
          ∙ sum-+ parts (λ l. only (eqb k l) (D k) *ℤ u l) (λ l. felt k (λ d. factor d l) *ℤ u l)
          ∙ ap₂ ◌+ℤ◌ (on_diagonal_lem u k below) (off_diagonal u k)

  -- ---- the expansion around a mean

  -- u − m·μ
  abbrev pub apart : ℤ → Vector → Vector → Vector
  apart m u μ k = u k -ℤ m *ℤ μ k

  -- the squares of a distance w, by parts and by combinations
  abbrev pub own_squares : Vector → ℤ
  own_squares w = sum parts (λ k. D k *ℤ (w k *ℤ w k))

  abbrev pub combined_squares : Vector → ℤ
  combined_squares w = sum combinations (λ d. g d *ℤ (combined w d *ℤ combined w d))

  -- a mean's residues along a distance w
  abbrev pub along : Vector → Vector → ℤ
  along μ w = sum parts (λ k. form_residue (pos 1) μ k *ℤ w k)

  -- the same of its own observations alone, and of its combinations alone
  abbrev own_along : Vector → Vector → ℕ → ℤ
  own_along μ w k = (D k *ℤ μ k -ℤ firsts k) *ℤ w k

  abbrev combined_along : Vector → Vector → ℕ → ℤ
  combined_along μ w d = g d *ℤ (missed (pos 1) μ d *ℤ combined w d)

  along_splits : (μ w : Vector) → along μ w ≡ sum parts (own_along μ w) +ℤ sum combinations (combined_along μ w)
  along_splits μ w =
      sum_cong parts (λ k _. ring ((D k *ℤ μ k) ∷ firsts k ∷ felt k (missed (pos 1) μ) ∷ w k ∷ [])
      (λ o b s v. (o ⊟ num 1 ⊠ b ⊞ s) ⊠ v ≐ (o ⊟ b) ⊠ v ⊞ s ⊠ v) tt)
      ∙ sum-+ parts (own_along μ w) (λ k. felt k (missed (pos 1) μ) *ℤ w k)
      ∙ ap (λ z. sum parts (own_along μ w) +ℤ z) (felt_along (missed (pos 1) μ) w)

  sum_expands : (n : ℕ) (m : ℤ) (f f₀ f₁ f₂ : ℕ → ℤ)
      → ((k : ℕ) → k < n → f k ≡ m *ℤ m *ℤ f₀ k +ℤ pos 2 *ℤ m *ℤ f₁ k +ℤ f₂ k)
      → sum n f ≡ m *ℤ m *ℤ sum n f₀ +ℤ pos 2 *ℤ m *ℤ sum n f₁ +ℤ sum n f₂
  sum_expands n m f f₀ f₁ f₂ h =
      sum_cong n h
      ∙ sum-+ n (λ k. m *ℤ m *ℤ f₀ k +ℤ pos 2 *ℤ m *ℤ f₁ k) f₂
      ∙ ap (λ z. z +ℤ sum n f₂) (sum-+ n (λ k. m *ℤ m *ℤ f₀ k) (λ k. pos 2 *ℤ m *ℤ f₁ k))
      ∙ ap₂ (λ a b. a +ℤ b +ℤ sum n f₂) (sum_scale n (m *ℤ m) f₀) (sum_scale n (pos 2 *ℤ m) f₁)

  module _ (m : ℤ) (u μ : Vector) where
    abbrev w : Vector
    w = apart m u μ

    combined_apart : (d : ℕ) → combined w d ≡ combined u d -ℤ m *ℤ combined μ d
    combined_apart d =
        sum_cong parts (λ k _. ring (factor d k ∷ u k ∷ m ∷ μ k ∷ []) (λ a u m v. a ⊠ (u ⊟ m ⊠ v) ≐ a ⊠ u ⊟ m ⊠ (a ⊠ v)) tt)
        ∙ sum-- parts (λ k. factor d k *ℤ u k) (λ k. m *ℤ (factor d k *ℤ μ k))
        ∙ ap (λ z. combined u d -ℤ z) (sum_scale parts m (λ k. factor d k *ℤ μ k))

    own_expands : (k : ℕ) → k < parts
        → own_term m u k ≡ m *ℤ m *ℤ own_term (pos 1) μ k +ℤ pos 2 *ℤ m *ℤ own_along μ w k +ℤ D k *ℤ (w k *ℤ w k)
    own_expands k _ = ring (D k ∷ firsts k ∷ seconds k ∷ m ∷ u k ∷ μ k ∷ [])
        (λ o b c m u v. o ⊠ (u ⊠ u) ⊟ num 2 ⊠ m ⊠ (b ⊠ u) ⊞ m ⊠ m ⊠ c
        ≐ m ⊠ m ⊠ (o ⊠ (v ⊠ v) ⊟ num 2 ⊠ num 1 ⊠ (b ⊠ v) ⊞ num 1 ⊠ num 1 ⊠ c)
        ⊞ num 2 ⊠ m ⊠ ((o ⊠ v ⊟ b) ⊠ (u ⊟ m ⊠ v))
        ⊞ o ⊠ ((u ⊟ m ⊠ v) ⊠ (u ⊟ m ⊠ v))) tt

    combined_expands : (d : ℕ) → d < combinations
        → combined_term m u d
        ≡ m *ℤ m *ℤ combined_term (pos 1) μ d +ℤ pos 2 *ℤ m *ℤ combined_along μ w d +ℤ g d *ℤ (combined w d *ℤ combined w d)
    combined_expands d _ = rw (combined_apart d) (ring (g d ∷ combined u d ∷ combined μ d ∷ observed d ∷ m ∷ [])
        (λ g s t y m. g ⊠ ((s ⊟ m ⊠ y) ⊠ (s ⊟ m ⊠ y))
        ≐ m ⊠ m ⊠ (g ⊠ ((t ⊟ num 1 ⊠ y) ⊠ (t ⊟ num 1 ⊠ y)))
        ⊞ num 2 ⊠ m ⊠ (g ⊠ ((t ⊟ num 1 ⊠ y) ⊠ (s ⊟ m ⊠ t)))
        ⊞ g ⊠ ((s ⊟ m ⊠ t) ⊠ (s ⊟ m ⊠ t))) tt)

    pub expansion : form_loss m u ≡ m *ℤ m *ℤ form_loss (pos 1) μ +ℤ pos 2 *ℤ m *ℤ along μ w +ℤ (own_squares w +ℤ combined_squares w)
    expansion =
        ap₂ ◌+ℤ◌
        (sum_expands parts m (own_term m u) (own_term (pos 1) μ) (own_along μ w) (λ k. D k *ℤ (w k *ℤ w k)) own_expands)
        (sum_expands combinations m (combined_term m u) (combined_term (pos 1) μ) (combined_along μ w) squares combined_expands)
        ∙ ring (m ∷ sum parts (own_term (pos 1) μ) ∷ sum parts (own_along μ w) ∷ own_squares w
        ∷ sum combinations (combined_term (pos 1) μ) ∷ sum combinations (combined_along μ w) ∷ combined_squares w ∷ [])
        (λ m a b c x y z. m ⊠ m ⊠ a ⊞ num 2 ⊠ m ⊠ b ⊞ c ⊞ (m ⊠ m ⊠ x ⊞ num 2 ⊠ m ⊠ y ⊞ z)
        ≐ m ⊠ m ⊠ (a ⊞ x) ⊞ num 2 ⊠ m ⊠ (b ⊞ y) ⊞ (c ⊞ z)) tt
        ∙ ap (λ z. m *ℤ m *ℤ form_loss (pos 1) μ +ℤ pos 2 *ℤ m *ℤ z +ℤ (own_squares w +ℤ combined_squares w)) (sym (along_splits μ w))
      where
        squares : ℕ → ℤ
        squares d = g d *ℤ (combined w d *ℤ combined w d)

    -- ---- residues of u/m along its distance from a mean; where they are 0, the squares of the distance are the mean's residues along it

    felt_apart : (k : ℕ) → felt k (missed m u) ≡ m *ℤ felt k (missed (pos 1) μ) +ℤ felt k (combined w)
    felt_apart k =
        sum_cong combinations (λ d _. rw (combined_apart d)
        (ring (g d ∷ factor d k ∷ combined u d ∷ combined μ d ∷ observed d ∷ m ∷ [])
        (λ g a s t y m. g ⊠ (a ⊠ (s ⊟ m ⊠ y)) ≐ m ⊠ (g ⊠ (a ⊠ (t ⊟ num 1 ⊠ y))) ⊞ g ⊠ (a ⊠ (s ⊟ m ⊠ t))) tt))
        ∙ sum-+ combinations (λ d. m *ℤ (g d *ℤ (factor d k *ℤ missed (pos 1) μ d))) (λ d. g d *ℤ (factor d k *ℤ combined w d))
        ∙ ap (λ z. z +ℤ felt k (combined w)) (sum_scale combinations m (λ d. g d *ℤ (factor d k *ℤ missed (pos 1) μ d)))

    residue_apart : (k : ℕ) → form_residue m u k ≡ m *ℤ form_residue (pos 1) μ k +ℤ (D k *ℤ w k +ℤ felt k (combined w))
    residue_apart k =
        ap (λ z. D k *ℤ u k -ℤ m *ℤ firsts k +ℤ z) (felt_apart k)
        ∙ ring (D k ∷ firsts k ∷ m ∷ u k ∷ μ k ∷ felt k (missed (pos 1) μ) ∷ felt k (combined w) ∷ [])
        (λ o b m u v s t. o ⊠ u ⊟ m ⊠ b ⊞ (m ⊠ s ⊞ t) ≐ m ⊠ (o ⊠ v ⊟ num 1 ⊠ b ⊞ s) ⊞ (o ⊠ (u ⊟ m ⊠ v) ⊞ t)) tt

    -- the residues of u/m along the distance are m times the mean's, and the squares
    pub along_apart : sum parts (λ k. form_residue m u k *ℤ w k) ≡ m *ℤ along μ w +ℤ (own_squares w +ℤ combined_squares w)
    along_apart =
        sum_cong parts (λ k below. ap (λ z. z *ℤ w k) (residue_apart k)
        ∙ ring (m ∷ form_residue (pos 1) μ k ∷ D k ∷ w k ∷ felt k (combined w) ∷ [])
        (λ m r o w s. (m ⊠ r ⊞ (o ⊠ w ⊞ s)) ⊠ w ≐ m ⊠ (r ⊠ w) ⊞ (o ⊠ (w ⊠ w) ⊞ s ⊠ w)) tt)
        ∙ sum-+ parts (λ k. m *ℤ (form_residue (pos 1) μ k *ℤ w k)) (λ k. D k *ℤ (w k *ℤ w k) +ℤ felt k (combined w) *ℤ w k)
        ∙ ap₂ ◌+ℤ◌ (sum_scale parts m (λ k. form_residue (pos 1) μ k *ℤ w k)) squares
      where
        squares : sum parts (λ k. D k *ℤ (w k *ℤ w k) +ℤ felt k (combined w) *ℤ w k) ≡ own_squares w +ℤ combined_squares w
        squares =
            sum-+ parts (λ k. D k *ℤ (w k *ℤ w k)) (λ k. felt k (combined w) *ℤ w k)
            ∙ ap (λ z. own_squares w +ℤ z) (felt_along (combined w) w)

    pub zero_residues_along : ((k : ℕ) → k < parts → form_residue m u k ≡ pos 0)
        → m *ℤ along μ w +ℤ (own_squares w +ℤ combined_squares w) ≡ pos 0
    zero_residues_along none = sym along_apart ∙ sum_zeros parts (λ k below. ap (λ z. z *ℤ w k) (none k below) ∙ zero-*ℤ (w k))
