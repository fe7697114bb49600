-- The laws of a sum's terms. Its range is in `SumRange`, its order in `SumOrder`, and the laws of `total` in `Total`.
use Rattle.std.specs.Prelude.{◌≡◌, refl, ℕ, zero, suc, ◌+◌, ◌<◌, [], ◌∷◌, ℤ, pos, neg_ℤ, ◌+ℤ◌, ◌-ℤ◌, ◌*ℤ◌}
use Rattle.std.proofs.Common.{sym, ◌∙◌, ap, ap₂, add-one, arith}
use Rattle.std.proofs.Math.IntN.{neg_ℤ-+ℤ, *ℤ-zero, zero-*ℤ}
unfoldable pub use Rattle.integers.specs.Summation.{sum, total}
use Rattle.integers.specs.Ring.{*ℤ-+ℤ, +ℤ-*ℤ, +ℤ_exchange}
use Rattle.integers.specs.Solver.{ring, num, ◌⊞◌, ◌⊠◌, ◌≐◌}

-- ---- by one term

pub sum_zero : (f : ℕ → ℤ) → sum 0 f ≡ pos 0
unfolding sum
sum_zero f = refl

pub sum_suc : (n : ℕ) (f : ℕ → ℤ) → sum (suc n) f ≡ sum n f +ℤ f n
unfolding sum
sum_suc n f = refl

pub sum_next : (n : ℕ) (f : ℕ → ℤ) → sum (n + 1) f ≡ sum n f +ℤ f n
sum_next n f = ap (λ k. sum k f) (add-one n) ∙ sum_suc n f

-- ---- term by term

pub sum_cong : (n : ℕ) {f g : ℕ → ℤ} → ((k : ℕ) → k < n → f k ≡ g k) → sum n f ≡ sum n g
unfolding sum
sum_cong zero h = refl
sum_cong (suc n) h = ap₂ ◌+ℤ◌ (sum_cong n (λ k l. h k (omega arith))) (h n (omega arith))

pub sum-+ : (n : ℕ) (f g : ℕ → ℤ) → sum n (λ k. f k +ℤ g k) ≡ sum n f +ℤ sum n g
unfolding sum
sum-+ zero f g = refl
sum-+ (suc n) f g = ap (λ s. s +ℤ (f n +ℤ g n)) (sum-+ n f g) ∙ +ℤ_exchange (sum n f) (sum n g) (f n) (g n)

pub sum_neg : (n : ℕ) (f : ℕ → ℤ) → sum n (λ k. neg_ℤ (f k)) ≡ neg_ℤ (sum n f)
unfolding sum
sum_neg zero f = refl
sum_neg (suc n) f = ap (λ s. s -ℤ f n) (sum_neg n f) ∙ sym (neg_ℤ-+ℤ (sum n f) (f n))

pub sum-- : (n : ℕ) (f g : ℕ → ℤ) → sum n (λ k. f k -ℤ g k) ≡ sum n f -ℤ sum n g
sum-- n f g = sum-+ n f (λ k. neg_ℤ (g k)) ∙ ap (λ s. sum n f +ℤ s) (sum_neg n g)

pub sum_scale : (n : ℕ) (c : ℤ) (f : ℕ → ℤ) → sum n (λ k. c *ℤ f k) ≡ c *ℤ sum n f
unfolding sum
sum_scale zero c f = sym (*ℤ-zero c)
sum_scale (suc n) c f = ap (λ s. s +ℤ c *ℤ f n) (sum_scale n c f) ∙ sym (*ℤ-+ℤ c (sum n f) (f n))

pub sum_scale_right : (n : ℕ) (c : ℤ) (f : ℕ → ℤ) → sum n (λ k. f k *ℤ c) ≡ sum n f *ℤ c
unfolding sum
sum_scale_right zero c f = sym (zero-*ℤ c)
sum_scale_right (suc n) c f = ap (λ s. s +ℤ f n *ℤ c) (sum_scale_right n c f) ∙ sym (+ℤ-*ℤ (sum n f) (f n) c)

pub sum_const : (n : ℕ) (c : ℤ) → sum n (λ k. c) ≡ pos n *ℤ c
unfolding sum
sum_const zero c = sym (zero-*ℤ c)
sum_const (suc n) c =
    ap (λ s. s +ℤ c) (sum_const n c)
    ∙ ring (pos n ∷ c ∷ []) (λ n c. n ⊠ c ⊞ c ≐ (n ⊞ num 1) ⊠ c) tt
    ∙ ap (λ k. pos k *ℤ c) (add-one n)

pub sum_zeros : (n : ℕ) {f : ℕ → ℤ} → ((k : ℕ) → k < n → f k ≡ pos 0) → sum n f ≡ pos 0
sum_zeros n h = sum_cong n h ∙ sum_const n (pos 0) ∙ *ℤ-zero (pos n)

-- ---- the two orders of a double sum

pub sum_swap : (n m : ℕ) (f : ℕ → ℕ → ℤ) → sum n (λ i. sum m (λ j. f i j)) ≡ sum m (λ j. sum n (λ i. f i j))
unfolding sum
sum_swap zero m f = sym (sum_zeros m (λ j l. refl))
sum_swap (suc n) m f = ap (λ s. s +ℤ sum m (f n)) (sum_swap n m f) ∙ sym (sum-+ m (λ j. sum n (λ i. f i j)) (f n))
