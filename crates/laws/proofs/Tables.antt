-- Tabulated lists: the definitions' `tab_from`.
use Rattle.std.specs.Prelude.{ℕ, zero, suc, ◌+◌, ◌≤◌, ◌<◌, ◌≡◌, refl, [], ◌∷◌, ◌++◌, get_or, length}
use Rattle.std.proofs.Common.{sym, ap, ap₂, ◌∙◌, zero-add, add-zero, add-suc, suc-add, le_of_suc-le-suc, not-suc-le-zero, arith}
use Rattle.definitions.specs.Words.{tab_from}

pub tab_from_length : {A : Type 0} (i n : ℕ) (f : ℕ → A) → length (tab_from i n f) ≡ n
unfolding tab_from
tab_from_length i zero f = refl
tab_from_length i (suc n) f = ap suc (tab_from_length (suc i) n f)

pub tab_from_snoc : {A : Type 0} (i n : ℕ) (f : ℕ → A) → tab_from i (suc n) f ≡ tab_from i n f ++ f (i + n) ∷ []
unfolding tab_from
tab_from_snoc i zero f = ap (λ j. f j ∷ []) (sym (add-zero i))
tab_from_snoc i (suc n) f =
    ap (λ l. f i ∷ l) (tab_from_snoc (suc i) n f ∙ ap (λ j. tab_from (suc i) n f ++ f j ∷ []) (suc-add i n ∙ sym (add-suc i n)))

pub tab_from_at : {A : Type 0} (i n : ℕ) (f : ℕ → A) (k : ℕ) (d : A) → k < n → get_or (tab_from i n f) k d ≡ f (i + k)
unfolding tab_from
tab_from_at i zero f k d h = absurd (not-suc-le-zero h)
tab_from_at i (suc n) f zero d h = ap f (sym (add-zero i))
tab_from_at i (suc n) f (suc k) d h = tab_from_at (suc i) n f k d (le_of_suc-le-suc h) ∙ ap f (suc-add i k ∙ sym (add-suc i k))

pub tab_at : {A : Type 0} (n : ℕ) (f : ℕ → A) (k : ℕ) (d : A) → k < n → get_or (tab_from 0 n f) k d ≡ f k
tab_at n f k d h = tab_from_at 0 n f k d h ∙ ap f (zero-add k)

-- two tables with the same elements
pub tab_cong : {A : Type 0} (i n : ℕ) {f g : ℕ → A} → ((k : ℕ) → i ≤ k → k < i + n → f k ≡ g k) → tab_from i n f ≡ tab_from i n g
unfolding tab_from
tab_cong i zero h = refl
tab_cong i (suc n) h = ap₂ ◌∷◌ (h i (omega arith) (omega arith)) (tab_cong (suc i) n (λ k from to. h k (omega arith) (omega arith)))
