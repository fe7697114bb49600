-- Some elements of an array, by their places: n of them are those of f.
use Rattle.std.specs.Prelude.{ℕ, ◌+◌, ◌<◌, ◌≡◌, ◌≢◌, ◌⊎◌, List, length, get_or, set}
use Rattle.std.proofs.Common.{sym, ap, ◌∙◌, inl, inr, eq-or-lt_of_le, arith, get_or-set_same, get_or-set_other}
use Rattle.laws.specs.Runs.{Run}

module _ {A : Type 0} (d : A) {n : ℕ} (place : ℕ → ℕ) {f : ℕ → A} (v : List A) (h : Run d n place f v) where
  -- one more
  pub run_next : {a : A} → place n < length v → ((i : ℕ) → i < n → place i ≢ place n) → a ≡ f n → Run d (n + 1) place f (set v (place n) a)
  run_next {a} there apart e i below = by_place (eq-or-lt_of_le (omega arith))
    where
      by_place : (i ≡ n) ⊎ (i < n) → get_or (set v (place n) a) (place i) d ≡ f i
      by_place (inl here) =
          ap (λ k. get_or (set v (place n) a) (place k) d) here ∙ get_or-set_same v (place n) a d there ∙ e ∙ ap f (sym here)
      by_place (inr before) = get_or-set_other v (place n) (place i) a d (apart i before) ∙ h i before

  -- an element elsewhere is put
  pub run_beside : (p : ℕ) (a : A) → ((i : ℕ) → i < n → place i ≢ p) → Run d n place f (set v p a)
  run_beside p a apart i below = get_or-set_other v p (place i) a d (apart i below) ∙ h i below
