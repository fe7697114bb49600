-- `weighed` meets its contract: neither the difference nor the product wraps.
use Prim.Native.Nat.{◌+◌, ◌^◌, ◌≤◌, ◌<◌}
use mathlib.Core.Path.{◌≡◌, refl, ap₂}
use native.Mathlib.Nat.{le_trans}
use native.Mathlib.Omega.{arith}
use lib.IntN.{ℤ, pos, nat_abs, ◌-ℤ◌, ◌*ℤ◌}
use mir.Syntax.{w64}
use mir.Val.{to_z}
use mir.Facts.{to_z-of_z, to_z_pos}
use Rattle.integers.specs.Bits.{stored}
use Rattle.integers.specs.Size.{nat_abs--, nat_abs-*-≤, fits, kept}
use Rattle.differences.proofs.terms.weighed.Goals as goal
use Rattle.differences.proofs.terms.weighed.Goals.{Start}

module _ (c : Start) where
  abbrev v : ℤ
  v = c.args.part

  abbrev z : ℤ
  z = c.args.observed

  difference : stored v -ℤ stored z ≡ v -ℤ z
  difference = ap₂ ◌-ℤ◌ (to_z-of_z c.ranges.part) (to_z-of_z c.ranges.observed)

  difference_small : nat_abs (v -ℤ z) < 2 ^ 63
  difference_small = omega (arith, nat_abs-- v z, c.requires.part_small, c.requires.observed_small)

  product : to_z w64 c.args.weight *ℤ stored (stored v -ℤ stored z) ≡ pos c.args.weight *ℤ (v -ℤ z)
  product = ap₂ ◌*ℤ◌ (to_z_pos w64 (omega (arith, c.requires.light))) (kept w64 difference difference_small)

  product_small : nat_abs (pos c.args.weight *ℤ (v -ℤ z)) < 2 ^ 63
  product_small =
      let apart : nat_abs (v -ℤ z) ≤ 2 ^ 31 + 2 ^ 26 = le_trans (nat_abs-- v z) (omega (arith, c.requires.part_small, c.requires.observed_small)) in
      omega (arith, nat_abs-*-≤ (pos c.args.weight) (v -ℤ z) c.requires.light apart)

pub overflow_cast-result : goal.overflow_cast-result
overflow_cast-result c = fits refl (omega (arith, c.requires.light))

pub overflow_sub-result : goal.overflow_sub-result
overflow_sub-result c = fits (difference c) (difference_small c)

pub overflow_mul-result : goal.overflow_mul-result
overflow_mul-result c = fits (product c) (product_small c)

pub returns : goal.returns
returns c = kept w64 (product c) (product_small c)
