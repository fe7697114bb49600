-- Sizes: the laws of `nat_abs`, and that a signed width holds what is small. `nat_abs z ≤ b` is `z ≤ℤ pos b` and `neg_ℤ (pos b) ≤ℤ z`
-- by `nat_abs-≤` of `Linear`, and `nat_abs (pos n)` computes.
use Rattle.std.specs.Prelude.{◌≡◌, refl, ℕ, zero, suc, ◌+◌, ◌*◌, ◌^◌, ◌≤◌, ◌<◌, ℤ, pos, negsuc, neg_ℤ, nat_abs, ◌+ℤ◌, ◌-ℤ◌, ◌*ℤ◌}
use Rattle.std.proofs.Common.{sym, ◌∙◌, subst, mul-le-mul, arith, to_z-of_z}
use Rattle.std.specs.Int.Signed.{mag}
use Rattle.std.specs.Int.{Width}
use mir.Val.{SFits, to_z, of_z, hbits}
use Rattle.integers.specs.Linear.{linear, nat_abs_parts}

pub nat_abs_neg : (a : ℤ) → nat_abs (neg_ℤ a) ≡ nat_abs a
nat_abs_neg (pos zero) = refl
nat_abs_neg (pos (suc n)) = refl
nat_abs_neg (negsuc n) = refl

pub nat_abs-+ : (a b : ℤ) → nat_abs (a +ℤ b) ≤ nat_abs a + nat_abs b
nat_abs-+ a b = simp linear (omega (arith, nat_abs_parts a, nat_abs_parts b))

pub nat_abs-- : (a b : ℤ) → nat_abs (a -ℤ b) ≤ nat_abs a + nat_abs b
nat_abs-- a b = simp linear (omega (arith, nat_abs_parts a, nat_abs_parts b))

pub nat_abs-* : (a b : ℤ) → nat_abs (a *ℤ b) ≡ nat_abs a * nat_abs b
nat_abs-* (pos m) (pos n) = refl
nat_abs-* (pos m) (negsuc n) = nat_abs_neg (pos (m * suc n))
nat_abs-* (negsuc m) (pos n) = nat_abs_neg (pos (suc m * n))
nat_abs-* (negsuc m) (negsuc n) = refl

pub nat_abs_square : (a : ℤ) → pos (nat_abs a * nat_abs a) ≡ a *ℤ a
nat_abs_square (pos n) = refl
nat_abs_square (negsuc n) = refl

pub nat_abs-*-≤ : (a b : ℤ) {m n : ℕ} → nat_abs a ≤ m → nat_abs b ≤ n → nat_abs (a *ℤ b) ≤ m * n
nat_abs-*-≤ a b h k = rw (nat_abs-* a b) (mul-le-mul h k)

-- ---- in the bits of a signed number: z as the code computes it, x as the specification has it. (`to_z_pos` of `mir.Facts` reads a
-- small natural as signed.)

mag-≤ : (z : ℤ) → mag z ≤ nat_abs z
mag-≤ (pos n) = omega arith
mag-≤ (negsuc n) = omega arith

-- what an operation asks: `fits refl (omega arith)`, or `fits (ap₂ ◌+ℤ◌ d e) (omega arith)` where d and e say what the operands are
pub fits : {w : Width} {z x : ℤ} → z ≡ x → nat_abs x < 2 ^ hbits w → SFits w z
fits {w} {x} e h = subst (SFits w) (sym e) (record { sfits = omega (arith, mag-≤ x) })

-- what is read back of a result that was stored
pub kept : (w : Width) {z x : ℤ} → z ≡ x → nat_abs x < 2 ^ hbits w → to_z w (of_z w z) ≡ x
kept w e h = to_z-of_z (fits e h) ∙ e
