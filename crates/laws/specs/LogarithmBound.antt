-- The specification's claims about the logarithm: 2^(2L) ≤ 2·a^(2T) < 2^(2L+3), and sharper above, 511·a^(2T) < 512·2^(2L+1). They are
-- drawn from a law of any number k of squarings up to 28: 2^l ≤ a^t < 2^(l+2), where l is h with the bits of k squarings behind it, and t
-- is 2^k.
--
-- After each squaring y and the bits l so far bracket the power p of the amount: 2^l·y ≤ p·N, and p·N·N^c ≤ 2^l·y·(N + 1)^c, where
-- N is 2^31 and c counts the roundings so far, of which a squaring doubles those before it and adds one.
use Rattle.std.specs.Prelude.{ℕ, ◌+◌, ◌*◌, ◌-◌, ◌^◌, ◌≤◌, ◌<◌}

abbrev pub N : ℕ
N = 2 ^ 31

pub record Bracket (p l y c : ℕ) : Type 0 where
  pub low : 2 ^ l * y ≤ p * N
  pub high : p * N * N ^ c ≤ 2 ^ l * y * (N + 1) ^ c
  pub from_N : N ≤ y
  pub to_2N : y < 2 * N

-- with t units of l to a doubling: 2^l ≤ a^t < 2^(l + 2); `nearly` is a bound from above that is the sharper, the fewer the squarings
pub record LogarithmBound (a t l : ℕ) : Type 0 where
  pub at_least : 2 ^ l ≤ a ^ t
  pub less_than : a ^ t < 2 ^ (l + 2)
  pub nearly : (2 ^ 31 + 1 - 2 * t) * a ^ t < 2 ^ 31 * 2 ^ (l + 1)

-- the specification's bound, with t ticks to a doubling; and the sharper one
pub record NearestTick (a t l : ℕ) : Type 0 where
  pub at_least : 2 ^ (2 * l) ≤ 2 * a ^ (2 * t)
  pub less_than : 2 * a ^ (2 * t) < 2 ^ (2 * l + 3)
  pub nearly : (2 ^ 31 + 1 - 2 * (2 * t)) * a ^ (2 * t) < 2 ^ 31 * 2 ^ (2 * l + 1)
