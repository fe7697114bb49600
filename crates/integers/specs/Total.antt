-- Laws of `total`, the finite sum of naturals, and of `sizes`, the sum of the sizes of whole numbers: it bounds the size of their sum,
-- and of each shorter sum.
use Rattle.std.specs.Prelude.{◌≡◌, refl, ◌≢◌, ℕ, zero, suc, ◌+◌, ◌*◌, ◌-◌, ◌≤◌, ◌<◌, ℤ, pos, nat_abs, ◌+ℤ◌}
use Rattle.std.proofs.Common.{sym, ◌∙◌, ap, ap₂, subst, zero-le, le_trans, add-le-add, add-zero, add-suc, add-one, arith}
use Rattle.std.proofs.Math.Decide.{ℕ_discrete}
use Rattle.integers.specs.Size.{nat_abs-+}
use Rattle.integers.specs.Sum.{sum, total}

-- ---- by one term

pub total_zero : (f : ℕ → ℕ) → total 0 f ≡ 0
unfolding total
total_zero f = refl

pub total_suc : (n : ℕ) (f : ℕ → ℕ) → total (suc n) f ≡ total n f + f n
unfolding total
total_suc n f = refl

pub total_next : (n : ℕ) (f : ℕ → ℕ) → total (n + 1) f ≡ total n f + f n
total_next n f = ap (λ k. total k f) (add-one n) ∙ total_suc n f

-- ---- term by term

pub total_cong : (n : ℕ) {f g : ℕ → ℕ} → ((k : ℕ) → k < n → f k ≡ g k) → total n f ≡ total n g
unfolding total
total_cong zero h = refl
total_cong (suc n) h = ap₂ ◌+◌ (total_cong n (λ k l. h k (omega arith))) (h n (omega arith))

pub total_mono : (n : ℕ) {f g : ℕ → ℕ} → ((k : ℕ) → k < n → f k ≤ g k) → total n f ≤ total n g
unfolding total
total_mono zero h = zero-le
total_mono (suc n) h = add-le-add (total_mono n (λ k l. h k (omega arith))) (h n (omega arith))

pub total_bound : (n b : ℕ) {f : ℕ → ℕ} → ((k : ℕ) → k < n → f k ≤ b) → total n f ≤ n * b
unfolding total
total_bound zero b h = zero-le
total_bound (suc n) b h = omega (arith, total_bound n b (λ k l. h k (omega arith)), h n (omega arith))

pub total_const : (n b : ℕ) → total n (λ k. b) ≡ n * b
unfolding total
total_const zero b = omega arith
total_const (suc n) b = rw (total_const n b) (omega arith)

-- the bound where one term, the k-th, may be more by c
pub total_bound_but_one : (n k b c : ℕ) {f : ℕ → ℕ} → ((i : ℕ) → i < n → i ≢ k → f i ≤ b) → (k < n → f k ≤ b + c) → total n f ≤ n * b + c
unfolding total
total_bound_but_one zero k b c others one = zero-le
total_bound_but_one (suc n) k b c {f} others one =
    by_place (total_bound_but_one n k b c (λ i below. others i (omega arith)) (λ below. one (omega arith))) (ℕ_discrete n k)
  where
    by_place : total n f ≤ n * b + c → Dec (n ≡ k) → total n f + f n ≤ suc n * b + c
    by_place before (yes here) =
        let last : f n ≤ b + c = subst (λ i. f i ≤ b + c) (sym here) (one (omega arith)) in
        omega (arith, last, total_bound n b (λ i below. others i (omega arith) (λ same. omega arith)))
    by_place before (no apart) = omega (arith, before, others n (omega arith) apart)

-- the same sum, in ℤ
pub pos_total : (n : ℕ) (f : ℕ → ℕ) → pos (total n f) ≡ sum n (λ k. pos (f k))
unfolding total sum
pos_total zero f = refl
pos_total (suc n) f = ap (λ s. s +ℤ pos (f n)) (pos_total n f)

-- ---- a range in two parts

pub total-+ : (n : ℕ) (f g : ℕ → ℕ) → total n (λ k. f k + g k) ≡ total n f + total n g
unfolding total
total-+ zero f g = refl
total-+ (suc n) f g = rw (total-+ n f g) (omega arith)

pub total_scale_right : (n c : ℕ) (f : ℕ → ℕ) → total n (λ k. f k * c) ≡ total n f * c
unfolding total
total_scale_right zero c f = omega arith
total_scale_right (suc n) c f = rw (total_scale_right n c f) (omega arith)

pub total_split : (m p : ℕ) (f : ℕ → ℕ) → total (m + p) f ≡ total m f + total p (λ k. f (m + k))
unfolding total
total_split m zero f = ap (λ k. total k f) (add-zero m) ∙ sym (add-zero (total m f))
total_split m (suc p) f = ap (λ k. total k f) (add-suc m p) ∙ (omega (arith, total_split m p f))

-- the first term by itself
pub total_first : (n : ℕ) (f : ℕ → ℕ) → total (n + 1) f ≡ f 0 + total n (λ k. f (1 + k))
total_first n f =
    let one : total 1 f ≡ f 0 = total_next 0 f ∙ ap (λ a. a + f 0) (total_zero f) ∙ alone (f 0) in
    ap (λ m. total m f) (turned n)
    ∙ total_split 1 n f
    ∙ ap (λ a. a + total n (λ k. f (1 + k))) one
  where
    turned : (n : ℕ) → n + 1 ≡ 1 + n
    turned n = omega arith

    alone : (a : ℕ) → 0 + a ≡ a
    alone a = omega arith

pub total_grows : {m n : ℕ} (f : ℕ → ℕ) → m ≤ n → total m f ≤ total n f
total_grows {m} {n} f l =
    let e : m + (n - m) ≡ n = omega arith in
    omega (arith, total_split m (n - m) f, ap (λ k. total k f) e)

pub total_term : (n a : ℕ) (f : ℕ → ℕ) → a < n → f a ≤ total n f
total_term n a f l = omega (arith, total_suc a f, total_grows {m = suc a} {n = n} f l)

-- ---- sizes

abbrev pub sizes : ℕ → (ℕ → ℤ) → ℕ
sizes n f = total n (λ k. nat_abs (f k))

pub sum_size : (n : ℕ) (f : ℕ → ℤ) → nat_abs (sum n f) ≤ sizes n f
unfolding sum total
sum_size zero f = zero-le
sum_size (suc n) f = le_trans (nat_abs-+ (sum n f) (f n)) (omega (arith, sum_size n f))
