-- A struck step's term leaves the loss, and nothing else does: of every chain, whatever else is struck.
use Rattle.std.specs.Prelude.{ℕ, ◌+◌, ◌-◌, ◌≤◌, ◌<◌, ◌≡◌, refl, ◌≢◌, Bool, true, false, cond, ◌&&◌, ◌||◌, [], ◌∷◌, T, ◌+ℤ◌, ◌-ℤ◌, ◌*ℤ◌}
use Rattle.std.proofs.Common.{sym, subst, ◌∙◌, arith, eq-eqb, ne_eqb, eqb→eq}
use Rattle.std.proofs.Math.Path.{ap, ap₂}
use Rattle.std.proofs.lemmas.Bool.{false≢true}
use Rattle.std.proofs.Math.Dec.{eqb}
use Rattle.std.proofs.Math.IntN.{ℤ, pos}
use Rattle.integers.specs.Solver.{ring, ◌⊞◌, ◌⊠◌, num, ◌≐◌}
use Rattle.integers.specs.Sum.{sum, sum_cong, sum-+, sum_zeros}
use Rattle.integers.specs.SumRange.{only, sum_one}
use Rattle.definitions.specs.Loss.{Vector, weighted, phi, psi, ratio, loss_times}
use Rattle.definitions.specs.Observations.{Chain}
use Rattle.definitions.specs.Strikes.{Step, step, same_step, without}

-- ---- one place of a triangle

module _ (N : ℕ) (n : ℕ → ℕ) (a b : ℕ) (b-below : b < N) (a-below : a < n b) where
  -- whether i and j are that place
  abbrev here : ℕ → ℕ → Bool
  here i j = eqb a i && eqb b j

  elsewhere : (i j : ℕ) (z : ℤ) → (b ≢ j) → only (here i j) z ≡ pos 0
  elsewhere i j z apart = ap (λ t. only (eqb a i && t) z) (ne_eqb b j apart) ∙ by_year_lem (eqb a i)
    where
      by_year_lem : (t : Bool) → only (t && false) z ≡ pos 0
      by_year_lem true = refl
      by_year_lem false = refl

  one_place : (t : ℕ → ℕ → ℤ) → sum N (λ j. sum (n j) (λ i. only (here i j) (t i j))) ≡ t a b
  one_place t =
      sum_one N b b-below (λ j below apart. sum_zeros (n j) (λ i there. elsewhere i j (t i j) (λ same. apart (sym same))))
      ∙ sum_one (n b) a a-below (λ i below apart. ap (λ s. only (s && eqb b b) (t i b)) (ne_eqb a i (λ same. apart (sym same))))
      ∙ ap₂ (λ s r. only (s && r) (t a b)) (eq-eqb a a refl) (eq-eqb b b refl)

  -- two that differ by one term there
  pub apart_by_one : (x y t : ℕ → ℕ → ℤ) → ((i j : ℕ) → j < N → i < n j → x i j ≡ y i j +ℤ only (here i j) (t i j))
      → sum N (λ j. sum (n j) (λ i. x i j)) ≡ sum N (λ j. sum (n j) (λ i. y i j)) +ℤ t a b
  apart_by_one x y t each =
      sum_cong N (λ j below. sum_cong (n j) (λ i there. each i j below there) ∙ sum-+ (n j) (λ i. y i j) (λ i. only (here i j) (t i j)))
      ∙ sum-+ N (λ j. sum (n j) (λ i. y i j)) (λ j. sum (n j) (λ i. only (here i j) (t i j)))
      ∙ ap (λ z. sum N (λ j. sum (n j) (λ i. y i j)) +ℤ z) (one_place t)

-- a weight that is struck out, or not
struck_term : (s e : Bool) (w : ℕ) (d : ℤ) → (e ≡ true → s ≡ false)
    → weighted (cond s 0 w) d ≡ weighted (cond (s || e) 0 w) d +ℤ only e (weighted w d)
struck_term true true w d free = absurd (false≢true (sym (free refl)))
struck_term true false w d free = ring (d ∷ []) (λ d. num 0 ⊠ (d ⊠ d) ≐ num 0 ⊠ (d ⊠ d) ⊞ num 0) tt
struck_term false true w d free = ring (pos w ∷ d ∷ []) (λ w d. w ⊠ (d ⊠ d) ≐ num 0 ⊠ (d ⊠ d) ⊞ w ⊠ (d ⊠ d)) tt
struck_term false false w d free = ring (pos w ∷ d ∷ []) (λ w d. w ⊠ (d ⊠ d) ≐ w ⊠ (d ⊠ d) ⊞ num 0) tt

or_false : (t : Bool) → t || false ≡ t
or_false true = refl
or_false false = refl

both : (s t : Bool) → s && t ≡ true → (s ≡ true) × (t ≡ true)
both true true e = (refl, refl)
both true false e = absurd (false≢true e)
both false t e = absurd (false≢true e)

module _ (c : Chain) (struck : Step → Bool) (a b m : ℕ) (u : Vector) where
  abbrev J : ℕ
  J = c.last

  -- only of the step itself
  only_it : (channel : ℕ) → struck (step channel a b) ≡ false → (i j : ℕ) → eqb a i && eqb b j ≡ true
      → struck (step channel i j) ≡ false
  only_it channel free i j e =
      let is-it = both (eqb a i) (eqb b j) e in
      ap₂ (λ i j. struck (step channel i j)) (sym (eqb→eq a i (subst T (sym is-it.0) tt)))
      (sym (eqb→eq b j (subst T (sym is-it.1) tt)))
      ∙ free

  -- what a step's term is, by its weight
  abbrev paid_term : (Step → Bool) → ℕ → ℕ → ℤ
  paid_term out i j = weighted (cond (out (step 0 i j)) 0 (c.p i j)) (phi c u j -ℤ pos m *ℤ c.x i j)

  abbrev incurred_term : (Step → Bool) → ℕ → ℕ → ℤ
  incurred_term out i j = weighted (cond (out (step 1 i j)) 0 (c.q i j)) (psi c u j -ℤ pos m *ℤ c.z i j)

  abbrev paid_terms : (Step → Bool) → ℤ
  paid_terms out = sum (J + 1) (λ j. sum (J - j + 1) (λ i. paid_term out i j))

  abbrev incurred_terms : (Step → Bool) → ℤ
  incurred_terms out = sum J (λ j. sum (J - j) (λ i. incurred_term out i j))

  -- the ratios and the priors, in which no step is
  abbrev ratio_terms : ℤ
  ratio_terms = sum J (λ k. weighted (c.g (J - (k + 1))) (ratio c u (k + 1) -ℤ pos m *ℤ c.y (k + 1)))

  abbrev phi_priors : ℤ
  phi_priors = sum (J + 1) (λ j. weighted (c.s j) (phi c u j -ℤ pos m *ℤ c.prior_Φ j))

  abbrev psi_priors : ℤ
  psi_priors = sum J (λ j. weighted (c.t j) (psi c u j -ℤ pos m *ℤ c.prior_Ψ j))

  -- struck out besides
  abbrev and_out : ℕ → Step → Bool
  and_out channel t = struck t || same_step (step channel a b) t

  pub paid_leaves : a + b ≤ c.last → struck (step 0 a b) ≡ false
      → loss_times (without struck c) m u
      ≡ loss_times (without (λ t. struck t || same_step (step 0 a b) t) c) m u +ℤ weighted (c.p a b) (phi c u b -ℤ pos m *ℤ c.x a b)
  unfolding loss_times ratio
  paid_leaves there free =
      let term : ℤ = weighted (c.p a b) (phi c u b -ℤ pos m *ℤ c.x a b) in
      let first : paid_terms struck ≡ paid_terms (and_out 0) +ℤ term =
      apart_by_one (J + 1) (λ j. J - j + 1) a b (omega (arith, there)) (omega (arith, there)) (paid_term struck) (paid_term (and_out 0))
      (λ i j. weighted (c.p i j) (phi c u j -ℤ pos m *ℤ c.x i j))
      (λ i j _ _. struck_term (struck (step 0 i j)) (eqb a i && eqb b j) (c.p i j) (phi c u j -ℤ pos m *ℤ c.x i j)
      (only_it 0 free i j)) in
      let second : incurred_terms struck ≡ incurred_terms (and_out 0) =
      sum_cong J (λ j _. sum_cong (J - j) (λ i _. ap (λ t. weighted (cond t 0 (c.q i j)) (psi c u j -ℤ pos m *ℤ c.z i j))
      (sym (or_false (struck (step 1 i j)))))) in
      ap₂ (λ x z. x +ℤ z +ℤ ratio_terms +ℤ phi_priors +ℤ psi_priors) first second
      ∙ ring (paid_terms (and_out 0) ∷ term ∷ incurred_terms (and_out 0) ∷ ratio_terms ∷ phi_priors ∷ psi_priors ∷ [])
      (λ x t z y p q. x ⊞ t ⊞ z ⊞ y ⊞ p ⊞ q ≐ x ⊞ z ⊞ y ⊞ p ⊞ q ⊞ t) tt

  pub incurred_leaves : a + b < c.last → struck (step 1 a b) ≡ false
      → loss_times (without struck c) m u
      ≡ loss_times (without (λ t. struck t || same_step (step 1 a b) t) c) m u +ℤ weighted (c.q a b) (psi c u b -ℤ pos m *ℤ c.z a b)
  unfolding loss_times ratio
  incurred_leaves there free =
      let term : ℤ = weighted (c.q a b) (psi c u b -ℤ pos m *ℤ c.z a b) in
      let first : paid_terms struck ≡ paid_terms (and_out 1) =
      sum_cong (J + 1) (λ j _. sum_cong (J - j + 1) (λ i _. ap (λ t. weighted (cond t 0 (c.p i j)) (phi c u j -ℤ pos m *ℤ c.x i j))
      (sym (or_false (struck (step 0 i j)))))) in
      let second : incurred_terms struck ≡ incurred_terms (and_out 1) +ℤ term =
      apart_by_one J (λ j. J - j) a b (omega (arith, there)) (omega (arith, there)) (incurred_term struck) (incurred_term (and_out 1))
      (λ i j. weighted (c.q i j) (psi c u j -ℤ pos m *ℤ c.z i j))
      (λ i j _ _. struck_term (struck (step 1 i j)) (eqb a i && eqb b j) (c.q i j) (psi c u j -ℤ pos m *ℤ c.z i j)
      (only_it 1 free i j)) in
      ap₂ (λ x z. x +ℤ z +ℤ ratio_terms +ℤ phi_priors +ℤ psi_priors) first second
      ∙ ring (paid_terms (and_out 1) ∷ incurred_terms (and_out 1) ∷ term ∷ ratio_terms ∷ phi_priors ∷ psi_priors ∷ [])
      (λ x z t y p q. x ⊞ (z ⊞ t) ⊞ y ⊞ p ⊞ q ≐ x ⊞ z ⊞ y ⊞ p ⊞ q ⊞ t) tt
