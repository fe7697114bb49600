-- The logarithm run as one number: h first, and each squaring puts its bit behind the bits so far. The last of them rounds it.
use Rattle.std.specs.Prelude.{ℕ}
use Rattle.definitions.specs.Logarithm.{highest_bit, start_from, bits_of}

-- h, and behind it the bits of k squarings
abbrev pub log_in : ℕ → ℕ → ℕ
log_in k a = bits_of k (start_from (highest_bit a) a) (highest_bit a)
