-- Finite sums over parts of a range: split, reversed, one term, and what a test picks out. Where the test is not passed, `only` makes
-- a term 0.
use Rattle.std.specs.Prelude.{◌≡◌, refl, ◌≢◌, Bool, true, false, not, cond, ℕ, zero, suc, ◌+◌, ◌-◌, ◌≤◌, ◌<◌, T, leb, ltb, eqb, ℤ, pos, ◌+ℤ◌}
use Rattle.std.proofs.Common.{sym, ◌∙◌, ap, ap₂, ⊎_elim, le_of_suc-le-suc, eq-or-lt_of_le, add-zero, add-suc, arith, le→leb, lt→ltb, eqb→eq}
use Rattle.std.proofs.Math.Dec.{eqb_refl, not_T}
use Rattle.std.proofs.Math.Arith.{lt→nleb, le→nltb}
use Rattle.std.proofs.Math.IntN.{+ℤ_assoc, +ℤ_comm, +ℤ_idl, +ℤ_idr}
use Rattle.integers.specs.Sum.{sum, sum_cong, sum_zeros}

abbrev pub only : Bool → ℤ → ℤ
only b z = cond b z (pos 0)

pub only_yes : (b : Bool) (z : ℤ) → T b → only b z ≡ z
only_yes true z t = refl
only_yes false z t = absurd t

pub only_no : (b : Bool) (z : ℤ) → T (not b) → only b z ≡ pos 0
only_no true z t = absurd t
only_no false z t = refl

-- the test of two indices
pub only_same : (k : ℕ) (z : ℤ) → only (eqb k k) z ≡ z
only_same k z = only_yes (eqb k k) z (eqb_refl k)

pub only_apart : (k l : ℕ) (z : ℤ) → k ≢ l → only (eqb k l) z ≡ pos 0
only_apart k l z apart = only_no (eqb k l) z (not_T (eqb k l) (λ t. apart (eqb→eq k l t)))

-- ---- a range in two parts

pub sum_split : (m p : ℕ) (f : ℕ → ℤ) → sum (m + p) f ≡ sum m f +ℤ sum p (λ k. f (m + k))
unfolding sum
sum_split m zero f = ap (λ k. sum k f) (add-zero m) ∙ sym (+ℤ_idr (sum m f))
sum_split m (suc p) f =
    ap (λ k. sum k f) (add-suc m p)
    ∙ ap (λ s. s +ℤ f (m + p)) (sum_split m p f)
    ∙ +ℤ_assoc (sum m f) (sum p (λ k. f (m + k))) (f (m + p))

pub sum_first : (n : ℕ) (f : ℕ → ℤ) → sum (suc n) f ≡ f 0 +ℤ sum n (λ k. f (suc k))
unfolding sum
sum_first zero f = +ℤ_comm (pos 0) (f 0)
sum_first (suc n) f = ap (λ s. s +ℤ f (suc n)) (sum_first n f) ∙ +ℤ_assoc (f 0) (sum n (λ k. f (suc k))) (f (suc n))

pub sum_reverse : (n : ℕ) (f : ℕ → ℤ) → sum n f ≡ sum n (λ k. f (n - 1 - k))
unfolding sum
sum_reverse zero f = refl
sum_reverse (suc n) f =
    +ℤ_comm (sum n f) (f n)
    ∙ ap₂ (λ k s. f k +ℤ s) (top n) (sum_reverse n f ∙ sum_cong n (λ k l. ap f (below n k l)))
    ∙ sym (sum_first n (λ k. f (suc n - 1 - k)))
  where
    top : (n : ℕ) → n ≡ suc n - 1 - 0
    top n = omega arith

    below : (n k : ℕ) → k < n → n - 1 - k ≡ suc n - 1 - suc k
    below n k l = omega arith

-- ---- one term that is not 0

pub sum_one : (n a : ℕ) {f : ℕ → ℤ} → a < n → ((k : ℕ) → k < n → k ≢ a → f k ≡ pos 0) → sum n f ≡ f a
unfolding sum
sum_one zero a l h = absurd (omega arith)
sum_one (suc n) a {f} l h = ⊎_elim
    (λ e. ap₂ ◌+ℤ◌ (sum_zeros n (λ k p. h k (omega arith) (omega arith))) (ap f (sym e)) ∙ +ℤ_idl (f a))
    (λ p. ap₂ ◌+ℤ◌ (sum_one n a p (λ k q. h k (omega arith))) (h n (omega arith) (omega arith)) ∙ +ℤ_idr (f a))
    (eq-or-lt_of_le (le_of_suc-le-suc l))

-- ---- the terms that a test picks

pub sum_below : (n m : ℕ) (f : ℕ → ℤ) → m ≤ n → sum n (λ k. only (ltb k m) (f k)) ≡ sum m f
sum_below n m f l =
    let e : n ≡ m + (n - m) = omega arith in
    ap (λ n. sum n (λ k. only (ltb k m) (f k))) e
    ∙ sum_split m (n - m) (λ k. only (ltb k m) (f k))
    ∙ ap₂ ◌+ℤ◌
    (sum_cong m (λ k l. only_yes (ltb k m) (f k) (lt→ltb k m l)))
    (sum_zeros (n - m) (λ k l. only_no (ltb (m + k) m) (f (m + k)) (le→nltb (m + k) m (omega arith))))
    ∙ +ℤ_idr (sum m f)

pub sum_from : (n m : ℕ) (f : ℕ → ℤ) → m ≤ n → sum n (λ k. only (leb m k) (f k)) ≡ sum (n - m) (λ k. f (m + k))
sum_from n m f l =
    let e : n ≡ m + (n - m) = omega arith in
    ap (λ n. sum n (λ k. only (leb m k) (f k))) e
    ∙ sum_split m (n - m) (λ k. only (leb m k) (f k))
    ∙ ap₂ ◌+ℤ◌
    (sum_zeros m (λ k l. only_no (leb m k) (f k) (lt→nleb m k l)))
    (sum_cong (n - m) (λ k l. only_yes (leb m (m + k)) (f (m + k)) (le→leb m (m + k) (omega arith))))
    ∙ +ℤ_idl (sum (n - m) (λ k. f (m + k)))
