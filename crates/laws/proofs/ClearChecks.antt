-- What a check that is clear says of the checks and the fields that it is made of; and two checks side by side, of which the one lets
-- through whatever the other does.
use Rattle.std.specs.Prelude.{ℕ, zero, suc, ◌+◌, ◌≤◌, ◌<◌, ◌≡◌, refl, ◌⊎◌, Bool, true, false, T}
use Rattle.std.proofs.Common.{sym, ap, ap₂, subst, ◌∙◌, inl, inr, eq-or-lt_of_le, arith}
use Rattle.std.proofs.lemmas.Bool.{false≢true}
use Rattle.definitions.specs.Refusals.{Check, clear, refuses, unless, ◌then◌, fields, is_clear}
use Rattle.laws.specs.ClearChecks.{Both, Kept}

pub then_clear : {a b : Check} → is_clear (a then b) ≡ true → Both a b
then_clear {a = clear} h = record { first = refl; second = h }
then_clear {a = refuses number place} h = absurd (false≢true h)

pub unless_clear : (t : Bool) (number place : ℕ) → is_clear (unless t number place) ≡ true → T t
unless_clear true number place h = tt
unless_clear false number place h = absurd (false≢true h)

pub fields_clear : (good : ℕ → Bool) (number : ℕ) (place_of : ℕ → ℕ) (i n : ℕ) → is_clear (fields good number place_of i n) ≡ true
    → (k : ℕ) → i ≤ k → k < i + n → T (good k)
unfolding fields
fields_clear good number place_of i zero h k from to = absurd (omega arith)
fields_clear good number place_of i (suc n) h k from to =
    let both = then_clear {a = unless (good i) number (place_of i)} h in
    here_or_later (eq-or-lt_of_le from) (unless_clear (good i) number (place_of i) both.first)
    (λ later. fields_clear good number place_of (suc i) n both.second k later (omega arith))
  where
    here_or_later : (i ≡ k) ⊎ (i < k) → T (good i) → (i < k → T (good k)) → T (good k)
    here_or_later (inl e) here later = subst (λ n. T (good n)) e here
    here_or_later (inr l) here later = later l

-- and where each of the fields is good, it is clear
pub fields_good : (good : ℕ → Bool) (number : ℕ) (place_of : ℕ → ℕ) (i n : ℕ) → ((k : ℕ) → i ≤ k → k < i + n → good k ≡ true)
    → fields good number place_of i n ≡ clear
unfolding fields
fields_good good number place_of i zero all = refl
fields_good good number place_of i (suc n) all =
    rw (all i (omega arith) (omega arith)) (fields_good good number place_of (suc i) n (λ k from to. all k (omega arith) (omega arith)))

-- and where one of them is not, it refuses; of fields that share a place
pub fields_bad : (good : ℕ → Bool) (number place : ℕ) (i n k : ℕ) → i ≤ k → k < i + n → good k ≡ false
    → fields good number (λ j. place) i n ≡ refuses number place
unfolding fields
fields_bad good number place i zero k from to bad = absurd (omega arith)
fields_bad good number place i (suc n) k from to bad =
    by_first (good i) refl (λ later. fields_bad good number place (suc i) n k later (omega arith) bad)
  where
    past : good i ≡ true → (i ≡ k) ⊎ (i < k) → i < k
    past e (inl same) = absurd (false≢true (sym bad ∙ sym (ap good same) ∙ e))
    past e (inr later) = later

    by_first : {rest : Check} (t : Bool) → good i ≡ t → (i < k → rest ≡ refuses number place)
        → unless t number place then rest ≡ refuses number place
    by_first true e later = later (past e (eq-or-lt_of_le from))
    by_first false e later = refl

-- ---- side by side

pub fields_same : (good other : ℕ → Bool) (number : ℕ) (place_of : ℕ → ℕ) (i n : ℕ)
    → ((k : ℕ) → i ≤ k → k < i + n → good k ≡ other k) → fields good number place_of i n ≡ fields other number place_of i n
unfolding fields
fields_same good other number place_of i zero same = refl
fields_same good other number place_of i (suc n) same =
    ap₂ (λ t rest. unless t number (place_of i) then rest) (same i (omega arith) (omega arith))
    (fields_same good other number place_of (suc i) n (λ k from to. same k (omega arith) (omega arith)))

-- whatever the one test calls good, the other does
pub fields_kept : (good other : ℕ → Bool) (number : ℕ) (place_of : ℕ → ℕ) (n : ℕ) → ((k : ℕ) → T (good k) → good k ≡ other k)
    → Kept (fields good number place_of 0 n) (fields other number place_of 0 n)
fields_kept good other number place_of n same h =
    fields_same good other number place_of 0 n (λ k from to. same k (fields_clear good number place_of 0 n h k from to))

pub kept_first : {a b : Check} (c : Check) → Kept a b → Kept (a then c) (b then c)
kept_first {a} c kept h = ap (λ x. x then c) (kept (then_clear {a = a} h).first)

pub kept_second : (a : Check) {b c : Check} → Kept b c → Kept (a then b) (a then c)
kept_second a kept h = ap (λ x. a then x) (kept (then_clear {a = a} h).second)
