-- The logarithm of an amount once more, in plain numbers, so that none of its laws can be weakened and still give these. Where the exact
-- one is t ticks, 2^(2t) is a^(2T), T being 1,048,576.
use Rattle.std.specs.Prelude.{ℕ, ◌+◌, ◌*◌, ◌%◌, ◌^◌, ◌≤◌, ◌<◌, ◌≡◌}
use Rattle.std.proofs.Common.{arith, lit<}
use Rattle.definitions.specs.Logarithm.{highest_bit, start_from, bits_of, logarithm}
use Rattle.laws.proofs.LogarithmBits.{rounded_by_the_last_bit}
use Rattle.laws.proofs.LogarithmBound.{logarithm_bound, logarithm_at_most}
use Rattle.laws.proofs.LogarithmOrder.{logarithm_grows}

-- ---- of every amount of 64 bits

-- at most half a tick above the exact logarithm, and below it by less than a tick
pub logarithm_bounded : (a : ℕ) → 1 ≤ a → a < 2 ^ 64
    → (2 ^ (2 * logarithm a) ≤ 2 * a ^ 2097152) × (2 * a ^ 2097152 < 2 ^ (2 * logarithm a + 3))
logarithm_bounded a one small = let bound = logarithm_bound a one small in (bound.at_least, bound.less_than)

-- below it by less than half a tick and the 700th of one
pub logarithm_nearest : (a : ℕ) → 1 ≤ a → a < 2 ^ 64 → 511 * a ^ 2097152 < 512 * 2 ^ (2 * logarithm a + 1)
logarithm_nearest a one small = omega (arith, (logarithm_bound a one small).nearly)

pub larger_logarithm : (a b : ℕ) → 1 ≤ a → a ≤ b → b < 2 ^ 64 → logarithm a ≤ logarithm b
larger_logarithm = logarithm_grows

-- what 20 squarings give, and one tick more where the 21st finds a 1
pub one_tick_at_most : (a : ℕ) → let y : ℕ = start_from (highest_bit a) a in
    logarithm a ≡ highest_bit a * 1048576 + bits_of 20 y 0 + bits_of 21 y 0 % 2
one_tick_at_most = rounded_by_the_last_bit

-- ---- of every amount that a file may have

-- that of 2^44 itself: joint table, `log_of_2^44`
pub largest_logarithm : (a : ℕ) → 1 ≤ a → a ≤ 2 ^ 44 → logarithm a ≤ 46137344
largest_logarithm a one small = logarithm_at_most a 44 one small (lit< tt)
