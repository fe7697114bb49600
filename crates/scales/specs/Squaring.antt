-- What the steps of the logarithm promise, in the words of the definition.
use Rattle.std.specs.Prelude.{ℕ, ◌+◌, ◌*◌, ◌^◌, ◌<◌, ◌≡◌, pos}
use Rattle.definitions.specs.Logarithm.{logarithm, highest_bit, start_from, next_bit, next_Y}
use Rattle.scales.specs.declared.Squaring.{Squaring}
use Rattle.scales.specs.declared.FourTicks.{FourTicks}

-- before the first squaring
pub record Start (a : ℕ) (s : Squaring) : Type 0 where
  pub y : s.y ≡ start_from (highest_bit a) a
  pub bits : s.bits ≡ highest_bit a
  pub small : s.y < 2 ^ 32
  pub few : s.bits < 2 ^ 6

-- after one more
pub record Next (s t : Squaring) : Type 0 where
  pub y : t.y ≡ next_Y s.y
  pub bits : t.bits ≡ 2 * s.bits + next_bit s.y
  pub small : t.y < 2 ^ 32

-- four side by side
pub record FourLogarithms (a b c d : ℕ) (r : FourTicks) : Type 0 where
  pub first : r.first.0 ≡ pos (logarithm a)
  pub second : r.second.0 ≡ pos (logarithm b)
  pub third : r.third.0 ≡ pos (logarithm c)
  pub fourth : r.fourth.0 ≡ pos (logarithm d)
