-- The numbers that the logarithm's steps hold: y has 32 bits, and one step more adds one bit to those that were found.
use mathlib.Core.Path.{◌≡◌, refl, sym, ap, subst, ◌∙◌}
use mathlib.Core.Bool.{Bool, true, false, cond}
use Prim.Native.Nat.{ℕ, suc, ◌+◌, ◌*◌, ◌-◌, ◌/◌, ◌%◌, ◌^◌, ◌≤◌, ◌<◌}
use native.Mathlib.Nat.{le_of_lt, lt_of_le_of_lt, mul-le-mul_left, mul-lt-mul_of_pos_right, mul_assoc, pow-suc}
use native.Mathlib.Omega.{arith}
use borrow.Author.Tests.{leb-true, leb-false}
use lib.Dec.{leb}
use lib.Pow.{pow_pos, pow-add, shl_exact, shl-shr, shr-shr}
use lib.Count.{count_leading_zeros, leading_top}
use Rattle.definitions.specs.Logarithm.{start_from, next_bit, next_Y, bits_of}

-- ---- the whole part

-- the highest bit's place, and what it says of the amount
module _ (a : ℕ) (positive : 0 < a) (fits : a < 2 ^ 64) where
  pub leading_below : count_leading_zeros 64 a ≤ 63
  leading_below = let t = leading_top 64 a positive fits in omega (arith, t.1)

  pub below_next_power : a < 2 ^ (63 - count_leading_zeros 64 a + 1)
  below_next_power =
      let t = leading_top 64 a positive fits in
      let e : suc t.0 ≡ 63 - count_leading_zeros 64 a + 1 = omega (arith, t.1) in
      subst (λ n. a < 2 ^ n) e t.3

  -- brought to place 63 it loses no bit
  pub brought_up : a * 2 ^ count_leading_zeros 64 a % 2 ^ 64 ≡ a * 2 ^ count_leading_zeros 64 a
  brought_up = shl_exact (63 - count_leading_zeros 64 a + 1) (count_leading_zeros 64 a) 64 below_next_power (omega (arith, leading_below))

-- from there, 32 places down: the definition's y, whichever way that has moved the amount
pub started : (a h zeros : ℕ) → h + zeros ≡ 63 → a * 2 ^ zeros / 2 ^ 32 ≡ start_from h a
unfolding start_from
started a h zeros e = by_side (leb h 31) refl
  where
    by_side : (b : Bool) → leb h 31 ≡ b → a * 2 ^ zeros / 2 ^ 32 ≡ cond b (a * 2 ^ (31 - h)) (a / 2 ^ (h - 31))
    by_side true t =
        let up : zeros ≡ 31 - h + 32 = omega (arith, leb-true h 31 t) in
        ap (λ n. a * n / 2 ^ 32) (ap (λ n. 2 ^ n) up ∙ pow-add 2 (31 - h) 32)
        ∙ ap (λ n. n / 2 ^ 32) (sym (mul_assoc a (2 ^ (31 - h)) (2 ^ 32)))
        ∙ shl-shr (a * 2 ^ (31 - h)) 32
    by_side false t =
        let down : 32 ≡ zeros + (h - 31) = omega (arith, leb-false h 31 t) in
        ap (λ n. a * 2 ^ zeros / 2 ^ n) down ∙ sym (shr-shr (a * 2 ^ zeros) zeros (h - 31)) ∙ ap (λ n. n / 2 ^ (h - 31)) (shl-shr a zeros)

-- ---- one squaring

pub square_below : (y : ℕ) → y < 2 ^ 32 → y * y < 2 ^ 64
square_below y h = lt_of_le_of_lt (mul-le-mul_left y (le_of_lt h)) (mul-lt-mul_of_pos_right h (pow_pos 32))

-- the highest bit of a square of 64 bits is the next bit, and says how far y is shifted
module _ (q : ℕ) (fits : q < 2 ^ 64) where
  pub highest : (b : Bool) → leb (2 ^ 63) q ≡ b → q / 2 ^ 63 ≡ cond b 1 0
  highest true e = omega (arith, leb-true (2 ^ 63) q e)
  highest false e = omega (arith, leb-false (2 ^ 63) q e)

  shifted_by : (b : Bool) → q / 2 ^ (31 + cond b 1 0) ≡ cond b (q / 2 ^ 32) (q / 2 ^ 31)
  shifted_by true = refl
  shifted_by false = refl

  pub shifted : (b : Bool) → leb (2 ^ 63) q ≡ b → q / 2 ^ (31 + q / 2 ^ 63) ≡ cond b (q / 2 ^ 32) (q / 2 ^ 31)
  shifted b e = ap (λ n. q / 2 ^ (31 + n)) (highest b e) ∙ shifted_by b

  pub shifted_below : (b : Bool) → leb (2 ^ 63) q ≡ b → cond b (q / 2 ^ 32) (q / 2 ^ 31) < 2 ^ 32
  shifted_below true e = omega arith
  shifted_below false e = omega (arith, leb-false (2 ^ 63) q e)

-- ---- the bits so far: 6 of the whole part, and one of each squaring

pub one_bit_more : (i l b : ℕ) → l < 2 ^ (6 + i) → b ≤ 1 → 2 * l + b < 2 ^ (6 + (i + 1))
one_bit_more i l b h small =
    let e : 6 + (i + 1) ≡ suc (6 + i) = omega arith in
    subst (λ n. 2 * l + b < n) (sym (pow-suc 2 (6 + i)) ∙ ap (λ n. 2 ^ n) (sym e)) (omega arith)

-- one squaring of those that are left
pub bits_next : (left i y l : ℕ) → i < left → bits_of (left - i) y l ≡ bits_of (left - (i + 1)) (next_Y y) (2 * l + next_bit y)
unfolding bits_of
bits_next left i y l h = let e : left - i ≡ suc (left - (i + 1)) = omega arith in ap (λ n. bits_of n y l) e
