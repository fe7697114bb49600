-- Specification, "From amounts to the loss": the logarithm of an amount, rounded to ticks. The number of squarings is a parameter.
use Rattle.std.specs.Prelude.{ℕ, zero, suc, ◌+◌, ◌*◌, ◌-◌, ◌/◌, ◌^◌, cond, leb}
use Rattle.std.specs.Int.Count.{count_leading_zeros}

-- T, the ticks of a doubling
abbrev pub ticks_per_doubling : ℕ
ticks_per_doubling = 1048576

-- h: 2^h is the highest power of two in a 64-bit amount
unfoldable pub highest_bit : ℕ → ℕ
highest_bit a = 63 - count_leading_zeros 64 a

-- y at the start: a times 2^(31−h), or for h > 31 the floor of a / 2^(h−31)
unfoldable pub start_from : ℕ → ℕ → ℕ
start_from h a = cond (leb h 31) (a * 2 ^ (31 - h)) (a / 2 ^ (h - 31))

-- one squaring: the next bit, and the next y
unfoldable pub next_bit : ℕ → ℕ
next_bit y = cond (leb (2 ^ 63) (y * y)) 1 0

unfoldable pub next_Y : ℕ → ℕ
next_Y y = cond (leb (2 ^ 63) (y * y)) (y * y / 2 ^ 32) (y * y / 2 ^ 31)

-- the bits of so many squarings, put behind those of l, first bit highest
unfoldable pub bits_of : ℕ → ℕ → ℕ → ℕ
bits_of zero y l = l
bits_of (suc k) y l = bits_of k (next_Y y) (2 * l + next_bit y)

-- 21 times: one bit more than a tick needs
abbrev pub squarings : ℕ
squarings = 21

-- L': 2h·T plus the 21 bits, a number of half ticks
unfoldable pub half_ticks : ℕ → ℕ
half_ticks a = 2 * highest_bit a * ticks_per_doubling + bits_of squarings (start_from (highest_bit a) a) 0

-- L: floor((L' + 1) / 2)
unfoldable pub logarithm : ℕ → ℕ
logarithm a = (half_ticks a + 1) / 2
