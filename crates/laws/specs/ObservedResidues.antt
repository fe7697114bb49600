-- What 8 bytes hold with a sign.
use Rattle.std.specs.Prelude.{◌^◌, ◌<◌, ℤ, nat_abs}

abbrev pub InEightBytes : ℤ → Type 0
InEightBytes z = nat_abs z < 2 ^ 63
