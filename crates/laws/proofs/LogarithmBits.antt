-- The logarithm run as one number: h first, and each squaring puts its bit behind the bits so far. The last of them rounds it.
use Rattle.std.specs.Prelude.{ℕ, zero, suc, ◌+◌, ◌*◌, ◌/◌, ◌%◌, ◌^◌, ◌≤◌, ◌<◌, ◌≡◌, Bool, true, false, cond, leb}
use Rattle.std.proofs.Common.{sym, ap, ◌∙◌, mul-le-mul_right, arith}
use Rattle.std.proofs.Math.Nat.{two-pow-succ}
use Rattle.definitions.specs.Logarithm.{ticks_per_doubling, highest_bit, start_from, next_bit, next_Y, bits_of, squarings, half_ticks, logarithm}
use Rattle.laws.specs.LogarithmBits.{log_in}

pub next_bit_small : (y : ℕ) → next_bit y ≤ 1
unfolding next_bit
next_bit_small y = small (leb (2 ^ 63) (y * y))
  where
    small : (t : Bool) → cond t 1 0 ≤ 1
    small true = omega arith
    small false = omega arith

-- what stands before the bits is shifted by them
pub bits_behind : (k y l : ℕ) → bits_of k y l ≡ l * 2 ^ k + bits_of k y 0
unfolding bits_of
bits_behind zero y l = omega arith
bits_behind (suc k) y l =
    bits_behind k (next_Y y) (2 * l + next_bit y)
    ∙ rw (two-pow-succ k) (shifted (next_bit y) (2 ^ k) (bits_of k (next_Y y) 0))
    ∙ ap (λ n. l * 2 ^ suc k + n) (sym (bits_behind k (next_Y y) (2 * 0 + next_bit y)))
  where
    shifted : (bit p rest : ℕ) → (2 * l + bit) * p + rest ≡ l * (p + p) + ((2 * 0 + bit) * p + rest)
    shifted bit p rest = omega arith

-- and k of them are below 2^k: so h is the whole part of L' in doublings
pub bits_few : (k y : ℕ) → bits_of k y 0 < 2 ^ k
unfolding bits_of
bits_few zero y = omega arith
bits_few (suc k) y =
    let first : bits_of (suc k) y 0 ≡ (0 + next_bit y) * 2 ^ k + bits_of k (next_Y y) 0 = bits_behind k (next_Y y) (2 * 0 + next_bit y) in
    omega (arith, first, bits_few k (next_Y y), mul-le-mul_right (2 ^ k) (next_bit_small y), two-pow-succ k)

-- L' is h and all the bits
pub half_ticks_run : (a : ℕ) → half_ticks a ≡ log_in squarings a
unfolding half_ticks
half_ticks_run a = omega (arith, bits_behind squarings (start_from (highest_bit a) a) (highest_bit a))

-- and L is rounded from them
pub logarithm_run : (a : ℕ) → logarithm a ≡ (log_in squarings a + 1) / 2
unfolding logarithm
logarithm_run a = ap (λ n. (n + 1) / 2) (half_ticks_run a)

-- one squaring more puts one bit more behind the others
last_bit : (k y l : ℕ) → (2 * bits_of k y l ≤ bits_of (suc k) y l) × (bits_of (suc k) y l ≤ 2 * bits_of k y l + 1)
unfolding bits_of
last_bit zero y l = (omega arith, omega (arith, next_bit_small y))
last_bit (suc k) y l = last_bit k (next_Y y) (2 * l + next_bit y)

-- so L is what one squaring less gives, and one tick more exactly where the last bit is 1
pub rounded_by_the_last_bit : (a : ℕ) → let y : ℕ = start_from (highest_bit a) a in
    logarithm a ≡ highest_bit a * ticks_per_doubling + bits_of 20 y 0 + bits_of squarings y 0 % 2
unfolding logarithm half_ticks
rounded_by_the_last_bit a = let last = last_bit 20 (start_from (highest_bit a) a) 0 in omega (arith, last.0, last.1)
