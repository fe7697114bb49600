-- Finite sums and order.
use Rattle.std.specs.Prelude.{ℕ, zero, suc, ◌<◌, ℤ, pos, ◌+ℤ◌, ◌≤ℤ◌, ◌<ℤ◌}
use Rattle.std.proofs.Common.{sym, subst, ⊎_elim, eq-or-lt_of_le, le_of_suc-le-suc, arith}
use Rattle.std.specs.Int.Signed.{≤ℤ_refl, <ℤ-≤ℤ_trans}
use Rattle.integers.specs.Order.{+ℤ_mono, +ℤ_nonneg}
use Rattle.integers.specs.Linear.{linear, zarith}
use Rattle.integers.specs.Sum.{sum}

pub sum_mono : (n : ℕ) {f g : ℕ → ℤ} → ((k : ℕ) → k < n → f k ≤ℤ g k) → sum n f ≤ℤ sum n g
unfolding sum
sum_mono zero h = ≤ℤ_refl (pos 0)
sum_mono (suc n) h = +ℤ_mono (sum_mono n (λ k l. h k (omega arith))) (h n (omega arith))

pub sum_nonneg : (n : ℕ) {f : ℕ → ℤ} → ((k : ℕ) → k < n → pos 0 ≤ℤ f k) → pos 0 ≤ℤ sum n f
unfolding sum
sum_nonneg zero h = ≤ℤ_refl (pos 0)
sum_nonneg (suc n) h = +ℤ_nonneg (sum_nonneg n (λ k l. h k (omega arith))) (h n (omega arith))

-- among terms that are not negative, each is at most the sum
pub sum_term : (n a : ℕ) {f : ℕ → ℤ} → a < n → ((k : ℕ) → k < n → pos 0 ≤ℤ f k) → f a ≤ℤ sum n f
unfolding sum
sum_term zero a l h = absurd (omega arith)
sum_term (suc n) a {f} l h =
    let low : pos 0 ≤ℤ sum n f = sum_nonneg n (λ k l. h k (omega arith)) in
    let last : pos 0 ≤ℤ f n = h n (omega arith) in
    ⊎_elim
    (λ e. subst (λ k. f k ≤ℤ (sum n f +ℤ f n)) (sym e) (simp linear (omega zarith)))
    (λ p. let earlier : f a ≤ℤ sum n f = sum_term n a p (λ k l. h k (omega arith)) in simp linear (omega zarith))
    (eq-or-lt_of_le (le_of_suc-le-suc l))

pub sum_positive : (n a : ℕ) {f : ℕ → ℤ} → a < n → ((k : ℕ) → k < n → pos 0 ≤ℤ f k) → pos 0 <ℤ f a → pos 0 <ℤ sum n f
sum_positive n a l h p = <ℤ-≤ℤ_trans p (sum_term n a l h)
