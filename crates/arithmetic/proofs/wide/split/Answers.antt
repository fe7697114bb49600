-- `split` meets its contract: the floor, and what is left, which is a natural below the divisor.
use Prim.Native.Nat.{ℕ, ◌^◌, ◌<◌}
use mathlib.Core.Path.{◌≡◌, sym, ap, ap₂, ◌∙◌}
use native.Mathlib.Omega.{arith}
use lib.IntN.{ℤ, pos, nat_abs, ◌-ℤ◌, ◌*ℤ◌}
use mir.Syntax.{w64}
use mir.Val.{to_z}
use mir.Facts.{to_z-of_z, to_z_pos}
use Rattle.integers.specs.Bits.{stored, same}
use Rattle.integers.specs.Floor.{floor_div}
use Rattle.integers.specs.Linear.{linear}
use Rattle.integers.specs.Size.{fits, kept}
use Rattle.arithmetic.proofs.WideLaws.{left, left_nonneg, left_small, multiple_small, word_split}
use Rattle.arithmetic.proofs.wide.split.Goals as goal
use Rattle.arithmetic.proofs.wide.split.Goals.{After-floor-floor, Start}

-- the divisor as a signed number
module _ (s : Start) where
  abbrev x : ℤ
  x = s.args.x

  abbrev d : ℕ
  d = s.args.d

  divisor : to_z w64 d ≡ pos d
  divisor = to_z_pos w64 (omega (arith, s.requires.divisor_small))

pub floor-floor-requires : goal.floor-floor-requires
floor-floor-requires c = let some = c.requires.some in rw (divisor c) (simp linear (omega (arith, some)))

module _ (c : After-floor-floor) where
  floor_read : stored c.floor-floor.result ≡ floor_div (x c.before) (d c.before)
  floor_read =
      same c.floor-floor.result c.floor-floor.type_inv
      ∙ c.floor-floor.ensures
      ∙ ap₂ (λ x d. floor_div x (nat_abs d)) (to_z-of_z c.ranges.x) (divisor c.before)

  multiple : stored c.floor-floor.result *ℤ to_z w64 (d c.before) ≡ floor_div (x c.before) (d c.before) *ℤ pos (d c.before)
  multiple = ap₂ ◌*ℤ◌ floor_read (divisor c.before)

  rest : stored (x c.before) -ℤ stored (stored c.floor-floor.result *ℤ to_z w64 (d c.before)) ≡ left c.requires
  rest = ap₂ ◌-ℤ◌ (to_z-of_z c.ranges.x) (kept w64 multiple (multiple_small c.requires))

  rest_small : nat_abs (left c.requires) < 2 ^ 63
  rest_small = omega (arith, left_small c.requires, c.requires.divisor_small)

  rest_read : stored (stored (x c.before) -ℤ stored (stored c.floor-floor.result *ℤ to_z w64 (d c.before))) ≡ pos (nat_abs (left c.requires))
  rest_read = kept w64 rest rest_small ∙ sym (left_nonneg c.requires)

pub overflow_mul-rest : goal.overflow_mul-rest
overflow_mul-rest c = fits (multiple c) (multiple_small c.requires)

pub overflow_sub-rest : goal.overflow_sub-rest
overflow_sub-rest c = fits (rest c) (rest_small c)

pub overflow_cast-result : goal.overflow_cast-result
overflow_cast-result c = rw (rest_read c) (tt, record { fits = omega (arith, rest_small c) })

pub returns : goal.returns
returns c = word_split c.requires (floor_read c) (ap nat_abs (rest_read c))
