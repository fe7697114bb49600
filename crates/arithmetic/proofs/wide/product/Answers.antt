-- `product` meets its contract: both halves of a times b fit one word each, and what the lower one has above 2^32 is carried.
use Prim.Native.Nat.{ℕ, ◌/◌, ◌%◌, ◌^◌, ◌<◌}
use mathlib.Core.Path.{◌≡◌, sym, ap₂, subst}
use native.Mathlib.Omega.{arith}
use lib.IntN.{ℤ, pos, ◌+ℤ◌, ◌*ℤ◌}
use mir.Syntax.{w64}
use mir.Val.{to_z}
use mir.Facts.{to_z-of_z, to_z_pos}
use Rattle.integers.specs.Bits.{stored, same}
use Rattle.integers.specs.Size.{kept}
use Rattle.arithmetic.specs.Wide.{IsWide, Divides}
use Rattle.arithmetic.proofs.WideLaws.{upper_small, lower_small, high_small, product_is}
use Rattle.arithmetic.proofs.wide.product.Goals as goal
use Rattle.arithmetic.proofs.wide.product.Goals.{After-struct_told-1, Start}

-- the halves, as they are computed
module _ (s : Start) where
  abbrev a : ℕ
  a = s.args.a

  abbrev b : ℤ
  b = s.args.b

  a_fits : a < 2 ^ 64
  a_fits = s.ranges.a.fits

  half : (n : ℕ) → n < 2 ^ 63 → to_z w64 n *ℤ stored b ≡ pos n *ℤ b
  half n small = ap₂ ◌*ℤ◌ (to_z_pos w64 small) (to_z-of_z s.ranges.b)

  upper_is : to_z w64 (a / 4294967296) *ℤ stored b ≡ pos (a / 4294967296) *ℤ b
  upper_is = half (a / 4294967296) (omega (arith, a_fits))

  lower_is : to_z w64 (a % 4294967296) *ℤ stored b ≡ pos (a % 4294967296) *ℤ b
  lower_is = half (a % 4294967296) (omega arith)

lower-read : (s : Start) → stored (to_z w64 (a s % 4294967296) *ℤ stored (b s)) ≡ pos (a s % 4294967296) *ℤ b s
lower-read s = kept w64 (lower_is s) (omega (arith, lower_small (a s) (b s) (a_fits s) s.requires))

-- with the carry
module _ (c : After-struct_told-1) where
  split : Divides (pos (a c.before.before.before % 4294967296) *ℤ b c.before.before.before) (2 ^ 32) c.split-lower.result
  split = subst (λ z. Divides z (2 ^ 32) c.split-lower.result) (lower-read c.before.before.before) c.split-lower.ensures

  high : stored (to_z w64 (a c.before.before.before / 4294967296) *ℤ stored (b c.before.before.before)) +ℤ stored c.split-lower.result.floor
      ≡ pos (a c.before.before.before / 4294967296) *ℤ b c.before.before.before +ℤ c.split-lower.result.floor
  high = ap₂ ◌+ℤ◌
      (kept w64 (upper_is c.before.before.before)
      (omega (arith, upper_small (a c.before.before.before) (b c.before.before.before) (a_fits c.before.before.before) c.requires)))
      (same _ c.struct_told-1.given.0.1)

pub returns : goal.returns
returns c =
    let start = (goal.at.returns c).Start in
    subst (λ h. IsWide (pos (a start) *ℤ b start) (record { high = h; low = c.split-lower.result.rest }))
    (sym (kept w64 (high c) (high_small (a start) (b start) (a_fits start) c.requires (split c))))
    (product_is (a start) (b start) (a_fits start) c.requires (split c))
