-- Linear arithmetic over ℤ, by `omega` on the positive and negative parts of the numbers.
--
--     simp linear (omega arith)
--
-- proves orders and equations between sums, differences, negations and multiples by a number `pos k` or `negsuc k`. Whatever else a
-- summand is, a product too, is an unknown. Hypotheses count while they still are arguments of the goal; one that has a name is listed,
-- `simp linear (omega (arith, simp linear at h))`. Orders and equations between two unknowns or literals need no `simp`: `omega zarith`
-- reads them among the hypotheses in scope and as the goal, so that `simp linear (omega (zarith, simp linear at h))` lists only the
-- compound ones. `nat_abs z ≤ b` and `nat_abs z < b` are read as two orders. What is not linear is made so by `ring` first, or is a case
-- for `Certificate`.
--
-- How: an order is `AtLeast`, with a list of what is still to be read. `linear` takes the first of the list apart where it is compound, and
-- adds its parts to the two sums where it is not.
use Rattle.std.specs.Prelude.{◌≡◌, refl, ◌↔◌, List, [], ◌∷◌, ℕ, suc, ◌+◌, ◌*◌, ◌≤◌, ◌<◌, T, ℤ, pos, negsuc, neg_ℤ, nat_abs, ◌+ℤ◌, ◌-ℤ◌, ◌*ℤ◌, ◌≤ℤ◌, ◌<ℤ◌}
use Rattle.std.proofs.Common.{ap, subst, arith, leb→le, le→leb, ltb→lt, lt→ltb}
use Rattle.std.specs.Int.Signed.{le_z, lt_z, le_z_yes, lt_z_yes}
use Rattle.integers.specs.Ring.{pos_part, neg_part, is, is_add, is_neg, is_mul, is_unique}

-- ---- orders and equations between two numbers, read into ℕ and back

le_read : (a b : ℤ) → T (le_z a b) → pos_part a + neg_part b ≤ pos_part b + neg_part a
le_read (pos m) (pos n) t = omega (arith, leb→le m n t)
le_read (pos m) (negsuc n) t = absurd t
le_read (negsuc m) (pos n) t = omega arith
le_read (negsuc m) (negsuc n) t = omega (arith, leb→le n m t)

le_write : (a b : ℤ) → pos_part a + neg_part b ≤ pos_part b + neg_part a → T (le_z a b)
le_write (pos m) (pos n) h = le→leb m n (omega arith)
le_write (pos m) (negsuc n) h = absurd (omega arith)
le_write (negsuc m) (pos n) h = tt
le_write (negsuc m) (negsuc n) h = le→leb n m (omega arith)

lt_read : (a b : ℤ) → T (lt_z a b) → pos_part a + neg_part b < pos_part b + neg_part a
lt_read (pos m) (pos n) t = omega (arith, ltb→lt m n t)
lt_read (pos m) (negsuc n) t = absurd t
lt_read (negsuc m) (pos n) t = omega arith
lt_read (negsuc m) (negsuc n) t = omega (arith, ltb→lt n m t)

lt_write : (a b : ℤ) → pos_part a + neg_part b < pos_part b + neg_part a → T (lt_z a b)
lt_write (pos m) (pos n) h = lt→ltb m n (omega arith)
lt_write (pos m) (negsuc n) h = absurd (omega arith)
lt_write (negsuc m) (pos n) h = tt
lt_write (negsuc m) (negsuc n) h = lt→ltb n m (omega arith)

pub ≤ℤ_read : (a b : ℤ) → a ≤ℤ b → pos_part a + neg_part b ≤ pos_part b + neg_part a
≤ℤ_read a b h = le_read a b h.le

pub ≤ℤ_write : (a b : ℤ) → pos_part a + neg_part b ≤ pos_part b + neg_part a → a ≤ℤ b
≤ℤ_write a b h = le_z_yes (le_write a b h)

pub <ℤ_read : (a b : ℤ) → a <ℤ b → pos_part a + neg_part b < pos_part b + neg_part a
<ℤ_read a b h = lt_read a b h.lt

pub <ℤ_write : (a b : ℤ) → pos_part a + neg_part b < pos_part b + neg_part a → a <ℤ b
<ℤ_write a b h = lt_z_yes (lt_write a b h)

pub ≡ℤ_read : (a b : ℤ) → a ≡ b → pos_part a + neg_part b ≡ pos_part b + neg_part a
≡ℤ_read a b e = subst (λ x. pos_part a + neg_part x ≡ pos_part x + neg_part a) e refl

pub ≡ℤ_write : (a b : ℤ) → pos_part a + neg_part b ≡ pos_part b + neg_part a → a ≡ b
≡ℤ_write a b e = is_unique (is a) (is b) e

pub ruleset zarith = (arith, ≤ℤ_read, ≤ℤ_write, <ℤ_read, <ℤ_write, ≡ℤ_read, ≡ℤ_write)

-- ---- sums

-- c · z, taken to the one side or to the other
pub data Summand : Type 0 where
  plus : ℕ → ℤ → Summand
  minus : ℕ → ℤ → Summand

abbrev pub gains : List Summand → ℕ
gains [] = 0
gains (plus c z ∷ t) = c * pos_part z + gains t
gains (minus c z ∷ t) = c * neg_part z + gains t

abbrev pub losses : List Summand → ℕ
losses [] = 0
losses (plus c z ∷ t) = c * neg_part z + losses t
losses (minus c z ∷ t) = c * pos_part z + losses t

-- g − l and the summands come to at least k
pub record AtLeast (k g l : ℕ) (t : List Summand) : Type 0 where
  pub sure : l + losses t + k ≤ g + gains t

trade : {k g l g' l' : ℕ} {t t' : List Summand} → g + gains t + (l' + losses t') ≡ g' + gains t' + (l + losses t)
    → AtLeast k g l t ↔ AtLeast k g' l' t'
trade e = (λ h. record { sure = omega arith }, λ h. record { sure = omega arith })

-- the start, the end, and a summand that is not taken apart
pub ≤ℤ_sums : (a b : ℤ) → (a ≤ℤ b) ↔ AtLeast 0 0 0 (plus 1 b ∷ minus 1 a ∷ [])
≤ℤ_sums a b = (λ h. record { sure = omega zarith }, λ h. ≤ℤ_write a b (omega arith))

pub <ℤ_sums : (a b : ℤ) → (a <ℤ b) ↔ AtLeast 1 0 0 (plus 1 b ∷ minus 1 a ∷ [])
<ℤ_sums a b = (λ h. record { sure = omega zarith }, λ h. <ℤ_write a b (omega arith))

pub ≡ℤ_sums : (a b : ℤ) → (a ≡ b) ↔ (AtLeast 0 0 0 (plus 1 b ∷ minus 1 a ∷ []) × AtLeast 0 0 0 (plus 1 a ∷ minus 1 b ∷ []))
≡ℤ_sums a b = (λ e. (record { sure = omega zarith }, record { sure = omega zarith }), λ h. ≡ℤ_write a b (omega arith))

pub all_read : (k g l : ℕ) → AtLeast k g l [] ↔ (l + k ≤ g)
all_read k g l = (λ h. omega arith, λ h. record { sure = omega arith })

module _ (k g l c : ℕ) (t : List Summand) where
  pub plus_unknown : (x : ℤ) → AtLeast k g l (plus c x ∷ t) ↔ AtLeast k (g + c * pos_part x) (l + c * neg_part x) t
  plus_unknown x = trade (omega arith)

  pub minus_unknown : (x : ℤ) → AtLeast k g l (minus c x ∷ t) ↔ AtLeast k (g + c * neg_part x) (l + c * pos_part x) t
  minus_unknown x = trade (omega arith)

  pub plus_sum : (x y : ℤ) → AtLeast k g l (plus c (x +ℤ y) ∷ t) ↔ AtLeast k g l (plus c x ∷ plus c y ∷ t)
  plus_sum x y = trade (omega (arith, ap (λ n. c * n) (is_add (is x) (is y)).cross))

  pub minus_sum : (x y : ℤ) → AtLeast k g l (minus c (x +ℤ y) ∷ t) ↔ AtLeast k g l (minus c x ∷ minus c y ∷ t)
  minus_sum x y = trade (omega (arith, ap (λ n. c * n) (is_add (is x) (is y)).cross))

  pub plus_neg : (x : ℤ) → AtLeast k g l (plus c (neg_ℤ x) ∷ t) ↔ AtLeast k g l (minus c x ∷ t)
  plus_neg x = trade (omega (arith, ap (λ n. c * n) (is_neg (is x)).cross))

  pub minus_neg : (x : ℤ) → AtLeast k g l (minus c (neg_ℤ x) ∷ t) ↔ AtLeast k g l (plus c x ∷ t)
  minus_neg x = trade (omega (arith, ap (λ n. c * n) (is_neg (is x)).cross))

  pub plus_times : (j : ℕ) (x : ℤ) → AtLeast k g l (plus c (pos j *ℤ x) ∷ t) ↔ AtLeast k g l (plus (c * j) x ∷ t)
  plus_times j x = trade (omega (arith, ap (λ n. c * n) (is_mul (is (pos j)) (is x)).cross))

  pub minus_times : (j : ℕ) (x : ℤ) → AtLeast k g l (minus c (pos j *ℤ x) ∷ t) ↔ AtLeast k g l (minus (c * j) x ∷ t)
  minus_times j x = trade (omega (arith, ap (λ n. c * n) (is_mul (is (pos j)) (is x)).cross))

  pub plus_times_right : (j : ℕ) (x : ℤ) → AtLeast k g l (plus c (x *ℤ pos j) ∷ t) ↔ AtLeast k g l (plus (c * j) x ∷ t)
  plus_times_right j x = trade (omega (arith, ap (λ n. c * n) (is_mul (is x) (is (pos j))).cross))

  pub minus_times_right : (j : ℕ) (x : ℤ) → AtLeast k g l (minus c (x *ℤ pos j) ∷ t) ↔ AtLeast k g l (minus (c * j) x ∷ t)
  minus_times_right j x = trade (omega (arith, ap (λ n. c * n) (is_mul (is x) (is (pos j))).cross))

  pub plus_less : (j : ℕ) (x : ℤ) → AtLeast k g l (plus c (negsuc j *ℤ x) ∷ t) ↔ AtLeast k g l (minus (c * suc j) x ∷ t)
  plus_less j x = trade (omega (arith, ap (λ n. c * n) (is_mul (is (negsuc j)) (is x)).cross))

  pub minus_less : (j : ℕ) (x : ℤ) → AtLeast k g l (minus c (negsuc j *ℤ x) ∷ t) ↔ AtLeast k g l (plus (c * suc j) x ∷ t)
  minus_less j x = trade (omega (arith, ap (λ n. c * n) (is_mul (is (negsuc j)) (is x)).cross))

pub ruleset products = (plus_times, minus_times, plus_times_right, minus_times_right, plus_less, minus_less)

pub ruleset summands = (plus_sum, minus_sum, plus_neg, minus_neg, products, plus_unknown, minus_unknown, all_read)

-- ---- sizes

pub nat_abs_parts : (z : ℤ) → nat_abs z ≡ pos_part z + neg_part z
nat_abs_parts (pos n) = omega arith
nat_abs_parts (negsuc n) = omega arith

pub nat_abs-≤ : (z : ℤ) (b : ℕ) → (nat_abs z ≤ b) ↔ ((z ≤ℤ pos b) × (neg_ℤ (pos b) ≤ℤ z))
nat_abs-≤ (pos n) b = (λ h. (≤ℤ_write _ _ (omega arith), ≤ℤ_write _ _ (omega (arith, is_neg (is (pos b))))), λ h. omega zarith)
nat_abs-≤ (negsuc n) b =
    let turned = is_neg (is (pos b)) in
    (λ h. (≤ℤ_write _ _ (omega arith), ≤ℤ_write _ _ (omega arith)), λ h. omega zarith)

pub nat_abs-< : (z : ℤ) (b : ℕ) → (nat_abs z < b) ↔ ((z <ℤ pos b) × (neg_ℤ (pos b) <ℤ z))
nat_abs-< (pos n) b = (λ h. (<ℤ_write _ _ (omega arith), <ℤ_write _ _ (omega (arith, is_neg (is (pos b))))), λ h. omega zarith)
nat_abs-< (negsuc n) b =
    let turned = is_neg (is (pos b)) in
    (λ h. (<ℤ_write _ _ (omega arith), <ℤ_write _ _ (omega arith)), λ h. omega zarith)

pub ruleset linear = (≤ℤ_sums, <ℤ_sums, ≡ℤ_sums, nat_abs-≤, nat_abs-<, summands)

-- ---- examples

from_arguments : (a b c d : ℤ) → (a -ℤ b) ≤ℤ (c +ℤ neg_ℤ d) → (pos 2 *ℤ (b +ℤ c)) <ℤ (a *ℤ d) → (pos 2 *ℤ (a +ℤ d)) <ℤ (a *ℤ d)
from_arguments a b c d = simp linear (omega arith)

from_names : (a b c d : ℤ) → (a -ℤ b) ≤ℤ c → d <ℤ pos 5 → (a +ℤ d) ≤ℤ (b +ℤ c +ℤ pos 4)
from_names a b c d p q = simp linear (omega (zarith, simp linear at p))

with_no_sums : (a b c d : ℤ) → a ≤ℤ b → c ≡ b → d <ℤ a → d <ℤ c
with_no_sums a b c d p q r = omega zarith

an_equation : (a b c : ℤ) → a ≡ b +ℤ c → a +ℤ c ≡ b +ℤ c *ℤ pos 2
an_equation a b c = simp linear (omega arith)

a_negation : (a b : ℤ) → ¬ (a ≤ℤ (b -ℤ pos 1)) → b ≤ℤ a
a_negation a b = simp linear (omega arith)

a_size : (a b : ℤ) (n : ℕ) → nat_abs (a -ℤ b) < n → nat_abs b ≤ 2 * n → nat_abs a < 3 * n
a_size a b n = simp linear (omega arith)
