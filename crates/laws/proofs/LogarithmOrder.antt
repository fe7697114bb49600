-- The logarithm grows with the amount: of two amounts the larger has no smaller logarithm.
use Rattle.std.specs.Prelude.{ℕ, zero, suc, ◌+◌, ◌*◌, ◌-◌, ◌/◌, ◌^◌, ◌≤◌, ◌<◌, ◌≡◌, ◌⊎◌, Bool, true, false, not, cond, T, leb}
use Rattle.std.proofs.Common.{sym, ap, subst, inl, inr, mul-le-mul, mul-le-mul_right, eq-or-lt_of_le, leb→le, pow_mono}
use native.Mathlib.Omega.{arith, by_contra}
use Rattle.std.proofs.Math.Dec.{nleb→lt}
use Rattle.std.proofs.Math.Pow.{shr_mono}
use Rattle.std.proofs.lemmas.Nat.{leading_top}
use Rattle.definitions.specs.Logarithm.{highest_bit, start_from, next_bit, next_Y, bits_of, logarithm, squarings}
use Rattle.laws.specs.LogarithmBits.{log_in}
use Rattle.laws.proofs.LogarithmBits.{next_bit_small, logarithm_run}
use Rattle.laws.specs.LogarithmOrder.{Behind}

-- a squaring keeps the order
squaring_keeps : (l y m z : ℕ) → Behind l y m z → Behind (2 * l + next_bit y) (next_Y y) (2 * m + next_bit z) (next_Y z)
unfolding next_bit next_Y
squaring_keeps l y m z (inl less) = inl (omega (arith, next_bit_small y))
squaring_keeps l y m z (inr (same, most)) =
    by_bits (leb (2 ^ 63) (y * y)) (leb (2 ^ 63) (z * z)) (leb→le (2 ^ 63) (y * y)) (nleb→lt (2 ^ 63) (z * z))
  where
    squares : y * y ≤ z * z
    squares = mul-le-mul most most

    by_bits : (s t : Bool) → (T s → 2 ^ 63 ≤ y * y) → (T (not t) → z * z < 2 ^ 63)
        → Behind
        (2 * l + cond s 1 0) (cond s (y * y / 2 ^ 32) (y * y / 2 ^ 31))
        (2 * m + cond t 1 0) (cond t (z * z / 2 ^ 32) (z * z / 2 ^ 31))
    by_bits true true at below = inr (ap (λ n. 2 * n + 1) same, shr_mono 32 squares)
    by_bits true false at below = absurd (clash (at tt) (below tt))
      where
        clash : 2 ^ 63 ≤ y * y → z * z < 2 ^ 63 → ⊥
        clash h k = omega (arith, squares)
    by_bits false true at below = inl (omega arith)
    by_bits false false at below = inr (ap (λ n. 2 * n + 0) same, shr_mono 31 squares)

bits_keep : (k l y m z : ℕ) → Behind l y m z → bits_of k y l ≤ bits_of k z m
unfolding bits_of
bits_keep zero l y m z (inl less) = omega arith
bits_keep zero l y m z (inr (same, most)) = omega arith
bits_keep (suc k) l y m z h = bits_keep k (2 * l + next_bit y) (next_Y y) (2 * m + next_bit z) (next_Y z) (squaring_keeps l y m z h)

start_keeps : (h a b : ℕ) → a ≤ b → start_from h a ≤ start_from h b
unfolding start_from
start_keeps h a b most = by_side (leb h 31)
  where
    by_side : (t : Bool) → cond t (a * 2 ^ (31 - h)) (a / 2 ^ (h - 31)) ≤ cond t (b * 2 ^ (31 - h)) (b / 2 ^ (h - 31))
    by_side true = mul-le-mul_right (2 ^ (31 - h)) most
    by_side false = shr_mono (h - 31) most

pub log_in_grows : (k a b : ℕ) → 1 ≤ a → a ≤ b → b < 2 ^ 64 → log_in k a ≤ log_in k b
unfolding highest_bit
log_in_grows k a b one most small =
    let top-a = leading_top 64 a one (omega arith) in
    let top-b = leading_top 64 b (omega arith) small in
    let place_a : highest_bit a ≡ top-a.0 = omega (arith, top-a.1) in
    let place_b : highest_bit b ≡ top-b.0 = omega (arith, top-b.1) in
    let places : top-a.0 ≤ top-b.0 =
    by_contra top-a.0 top-b.0 (λ less. omega (arith, pow_mono {i = suc top-b.0} {j = top-a.0} less, top-a.2, top-b.3)) in
    bits_keep k (highest_bit a) (start_from (highest_bit a) a) (highest_bit b) (start_from (highest_bit b) b)
    (by_place (eq-or-lt_of_le (subst (λ n. n ≤ highest_bit b) (sym place_a) (subst (λ n. top-a.0 ≤ n) (sym place_b) places))))
  where
    by_place : (highest_bit a ≡ highest_bit b) ⊎ (highest_bit a < highest_bit b)
        → Behind (highest_bit a) (start_from (highest_bit a) a) (highest_bit b) (start_from (highest_bit b) b)
    by_place (inl same) = inr (same, subst (λ h. start_from (highest_bit a) a ≤ start_from h b) same (start_keeps (highest_bit a) a b most))
    by_place (inr less) = inl less

-- and so it is once it is rounded
pub logarithm_grows : (a b : ℕ) → 1 ≤ a → a ≤ b → b < 2 ^ 64 → logarithm a ≤ logarithm b
logarithm_grows a b one most small = omega (arith, logarithm_run a, logarithm_run b, log_in_grows squarings a b one most small)
