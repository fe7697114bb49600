-- An array that is filled from the front: below k it has its numbers, from k on it is still empty.
use Rattle.std.specs.Prelude.{ℕ, zero, suc, ◌+◌, ◌<◌, ◌≡◌, refl, ◌⊎◌, List, get_or, set, replicate}
use Rattle.std.proofs.Common.{ap, sym, subst, ◌∙◌, inl, inr, eq-or-lt_of_le, arith, length-set, get_or-set_same, get_or-set_other}
use Rattle.std.proofs.lemmas.List.{length-replicate}
use Rattle.laws.specs.Filled.{Filled}

-- an array of one number throughout
pub empty_at : {A : Type 0} (n i : ℕ) (a : A) → get_or (replicate n a) i a ≡ a
empty_at zero i a = refl
empty_at (suc n) zero a = refl
empty_at (suc n) (suc i) a = empty_at n i a

pub filled_none : {A : Type 0} (size : ℕ) (empty : A) (f : ℕ → A) → Filled size 0 empty f (replicate size empty)
filled_none size empty f = record {
  long = length-replicate size empty;
  front = λ i below. absurd (omega arith);
  rest = λ i _. empty_at size i empty;
}

module _ {A : Type 0} {size k : ℕ} {empty : A} {f : ℕ → A} {v : List A} where
  pub filled_next : {a : A} → Filled size k empty f v → k < size → a ≡ f k → Filled size (k + 1) empty f (set v k a)
  filled_next {a} h below e = record {
    long = length-set v k a ∙ h.long;
    front = λ i i-below. by_place i (eq-or-lt_of_le (omega arith));
    rest = λ i from. get_or-set_other v k i a empty (λ same. omega arith) ∙ h.rest i (omega arith);
  }
    where
      by_place : (i : ℕ) → (i ≡ k) ⊎ (i < k) → get_or (set v k a) i empty ≡ f i
      by_place i (inl here) =
          ap (λ n. get_or (set v k a) n empty) here
          ∙ get_or-set_same v k a empty (omega (arith, h.long))
          ∙ e
          ∙ ap f (sym here)
      by_place i (inr earlier) = get_or-set_other v k i a empty (λ same. omega arith) ∙ h.front i earlier

  pub filled_to : {n : ℕ} → k ≡ n → Filled size k empty f v → Filled size n empty f v
  filled_to e h = subst (λ i. Filled size i empty f v) e h
