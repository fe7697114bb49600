-- What can be told: both of two facts, a fact of every number below n, and the order of whole numbers.
use Rattle.std.specs.Prelude.{ℕ, zero, suc, ◌<◌, ◌≡◌, ◌⊎◌, Bool, true, false, T, ℤ, ◌≤ℤ◌}
use Rattle.std.proofs.Common.{sym, subst, inl, inr, eq-or-lt_of_le, arith}
use Rattle.std.proofs.Math.Decide.{map_dec}
use Rattle.std.specs.Int.Signed.{le_z, le_z_yes}

infixr 20 ◌and◌
pub ◌and◌ : {A B : Type 0} → Dec A → Dec B → Dec (A × B)
yes a and yes b = yes (a, b)
yes a and no b = no (λ both. b both.1)
no a and b = no (λ both. a both.0)

pub every : (n : ℕ) {P : ℕ → Type 0} → ((k : ℕ) → Dec (P k)) → Dec ((k : ℕ) → k < n → P k)
every zero d = yes (λ k below. absurd (omega arith))
every (suc n) {P} d = map_dec (λ both k below. by_place both k (eq-or-lt_of_le (omega arith)))
    (λ all. ((λ k below. all k (omega arith)), all n (omega arith)))
    (every n d and d n)
  where
    by_place : ((k : ℕ) → k < n → P k) × P n → (k : ℕ) → (k ≡ n) ⊎ (k < n) → P k
    by_place both k (inl here) = subst P (sym here) both.1
    by_place both k (inr before) = both.0 k before

pub dec_le_Z : (x y : ℤ) → Dec (x ≤ℤ y)
dec_le_Z x y = map_dec le_z_yes (λ h. h.le) (test (le_z x y))
  where
    test : (b : Bool) → Dec (T b)
    test true = yes tt
    test false = no (λ t. t)
