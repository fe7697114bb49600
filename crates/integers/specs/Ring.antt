-- Ring laws of ℤ that `lib.IntN` lacks. Each is shown by reading its numbers as differences of naturals:
-- `Is z a b` says z = a − b, it goes through sum, negation and product, and two readings with equal cross sums are one number.
use Rattle.std.specs.Prelude.{◌≡◌, ◌↔◌, Bool, true, false, not, cond, ℕ, zero, suc, ◌+◌, ◌*◌, ◌-◌, ◌<◌, ◌≤◌, T, ltb, ℤ, pos, negsuc, neg_ℤ, ◌+ℤ◌, ◌-ℤ◌, ◌*ℤ◌}
use Rattle.std.proofs.Common.{◌∙◌, ap, arith, ltb→lt, nltb→le}
use Rattle.std.proofs.Math.IntN.{sub_ℕ, *ℤ_comm, +ℤ_invr}

-- z = pos_part z − neg_part z, and one of the two is 0
abbrev pub pos_part : ℤ → ℕ
pos_part (pos n) = n
pos_part (negsuc n) = 0

abbrev pub neg_part : ℤ → ℕ
neg_part (pos n) = 0
neg_part (negsuc n) = suc n

pub record Is (z : ℤ) (a b : ℕ) : Type 0 where
  pub cross : pos_part z + b ≡ neg_part z + a

pub is : (z : ℤ) → Is z (pos_part z) (neg_part z)
is z = record { cross = omega arith }

is_sub_ℕ : (a b : ℕ) → Is (sub_ℕ a b) a b
is_sub_ℕ a b = go (ltb a b) (λ t. ltb→lt a b t) (λ t. nltb→le a b t)
  where
    go : (t : Bool) → (T t → a < b) → (T (not t) → b ≤ a) → Is (cond t (negsuc (b - suc a)) (pos (a - b))) a b
    go true f g = let h : a < b = f tt in record { cross = omega arith }
    go false f g = let h : b ≤ a = g tt in record { cross = omega arith }

-- two readings of one number, and one reading of two numbers
is_shift : {z : ℤ} {a b c d : ℕ} → Is z a b → a + d ≡ c + b → Is z c d
is_shift h e = record { cross = omega arith }

pub is_unique : {x y : ℤ} {a b c d : ℕ} → Is x a b → Is y c d → a + d ≡ c + b → x ≡ y
is_unique {x} {y} {a} {b} {c} {d} h k e = go x y (omega arith)
  where
    go : (x y : ℤ) → pos_part x + neg_part y ≡ pos_part y + neg_part x → x ≡ y
    go (pos m) (pos n) e = ap pos (omega arith)
    go (pos m) (negsuc n) e = absurd (omega arith)
    go (negsuc m) (pos n) e = absurd (omega arith)
    go (negsuc m) (negsuc n) e = ap negsuc (omega arith)

pub is_neg : {z : ℤ} {a b : ℕ} → Is z a b → Is (neg_ℤ z) b a
is_neg {z = pos zero} h = record { cross = omega arith }
is_neg {z = pos (suc n)} h = record { cross = omega arith }
is_neg {z = negsuc n} h = record { cross = omega arith }

pub is_add : {x y : ℤ} {a b c d : ℕ} → Is x a b → Is y c d → Is (x +ℤ y) (a + c) (b + d)
is_add {x = pos m} {y = pos n} h k = record { cross = omega arith }
is_add {x = pos m} {y = negsuc n} h k = is_shift (is_sub_ℕ m (suc n)) (omega arith)
is_add {x = negsuc m} {y = pos n} h k = is_shift (is_sub_ℕ n (suc m)) (omega arith)
is_add {x = negsuc m} {y = negsuc n} h k = record { cross = omega arith }

pub is_sub : {x y : ℤ} {a b c d : ℕ} → Is x a b → Is y c d → Is (x -ℤ y) (a + d) (b + c)
is_sub h k = is_add h (is_neg k)

is_mul_parts : (x y : ℤ)
    → Is (x *ℤ y) (pos_part x * pos_part y + neg_part x * neg_part y) (pos_part x * neg_part y + neg_part x * pos_part y)
is_mul_parts (pos m) (pos n) = record { cross = omega arith }
is_mul_parts (pos m) (negsuc n) = is_shift (is_neg (is (pos (m * suc n)))) (omega arith)
is_mul_parts (negsuc m) (pos n) = is_shift (is_neg (is (pos (suc m * n)))) (omega arith)
is_mul_parts (negsuc m) (negsuc n) = record { cross = omega arith }

pub is_mul : {x y : ℤ} {a b c d : ℕ} → Is x a b → Is y c d → Is (x *ℤ y) (a * c + b * d) (a * d + b * c)
is_mul {x} {y} {a} {b} {c} {d} h k =
    let left-plus = ap (λ t. t * pos_part y) h.cross in
    let left-minus = ap (λ t. t * neg_part y) h.cross in
    let right-plus = ap (λ t. t * a) k.cross in
    let right-minus = ap (λ t. t * b) k.cross in
    is_shift (is_mul_parts x y) (omega arith)

pub *ℤ-+ℤ : (x y z : ℤ) → x *ℤ (y +ℤ z) ≡ x *ℤ y +ℤ x *ℤ z
*ℤ-+ℤ x y z = is_unique (is_mul (is x) (is_add (is y) (is z))) (is_add (is_mul (is x) (is y)) (is_mul (is x) (is z))) (omega arith)

pub +ℤ-*ℤ : (x y z : ℤ) → (x +ℤ y) *ℤ z ≡ x *ℤ z +ℤ y *ℤ z
+ℤ-*ℤ x y z = is_unique (is_mul (is_add (is x) (is y)) (is z)) (is_add (is_mul (is x) (is z)) (is_mul (is y) (is z))) (omega arith)

pub neg_ℤ-*ℤ : (x y : ℤ) → neg_ℤ x *ℤ y ≡ neg_ℤ (x *ℤ y)
neg_ℤ-*ℤ x y = is_unique (is_mul (is_neg (is x)) (is y)) (is_neg (is_mul (is x) (is y))) (omega arith)

pub *ℤ_idl : (x : ℤ) → pos 1 *ℤ x ≡ x
*ℤ_idl x = is_unique (is_mul (is (pos 1)) (is x)) (is x) (omega arith)

pub *ℤ_idr : (x : ℤ) → x *ℤ pos 1 ≡ x
*ℤ_idr x = *ℤ_comm x (pos 1) ∙ *ℤ_idl x

-- four summands, the middle two exchanged
pub +ℤ_exchange : (a b c d : ℤ) → (a +ℤ b) +ℤ (c +ℤ d) ≡ (a +ℤ c) +ℤ (b +ℤ d)
+ℤ_exchange a b c d = is_unique
    (is_add (is_add (is a) (is b)) (is_add (is c) (is d)))
    (is_add (is_add (is a) (is c)) (is_add (is b) (is d))) (omega arith)

pub ≡ℤ_is_zero : {x y : ℤ} → (x ≡ y) ↔ (x -ℤ y ≡ pos 0)
≡ℤ_is_zero {x} {y} = (
  λ e. ap (λ z. z -ℤ y) e ∙ +ℤ_invr y,
  λ e. is_unique (is x) (is y) (omega (arith, is_sub (is x) (is y), ap pos_part e, ap neg_part e)),
)
