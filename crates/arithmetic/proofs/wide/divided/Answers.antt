-- `divided` meets its contract: three digits, the first of them signed, with the rest.
use Prim.Native.Nat.{◌+◌, ◌*◌, ◌^◌, ◌≤◌, ◌<◌}
use mathlib.Core.Path.{◌≡◌, sym, ap, ap₂, subst}
use native.Mathlib.Omega.{arith}
use lib.IntN.{pos, nat_abs, ◌+ℤ◌, ◌*ℤ◌}
use mir.Syntax.{w64}
use mir.Val.{to_z}
use mir.Facts.{to_z_pos}
use Rattle.integers.specs.Bits.{stored, read}
use Rattle.integers.specs.Linear.{linear}
use Rattle.integers.specs.Size.{nat_abs-+, fits, kept}
use Rattle.arithmetic.specs.declared.wide.Digit.{Digit}
use Rattle.arithmetic.specs.declared.wide.Quotient.{Quotient}
use Rattle.arithmetic.specs.Wide.{value_of, Divides}
use Rattle.arithmetic.proofs.WideLaws.{first_small, divided_is}
use Rattle.arithmetic.proofs.wide.divided.Goals as goal
use Rattle.arithmetic.proofs.wide.divided.Goals.{After-struct_told-2-1}

module _ (c : After-struct_told-2-1) where
  abbrev first : Quotient
  first = c.split-first.result

  abbrev second : Digit
  second = c.next_digit-second.result

  abbrev third : Digit
  third = c.next_digit-third.result

  split : Divides c.args.n.high c.args.d first
  split = subst (λ z. Divides z c.args.d first) (read c.args.n.high (omega (arith, c.requires.of_word.small))) c.split-first.ensures

  first_fits : nat_abs first.floor ≤ 2 ^ 29
  first_fits = first_small c.requires split

  upper : stored first.floor *ℤ pos 4294967296 ≡ first.floor *ℤ pos 4294967296
  upper = ap (λ z. z *ℤ pos 4294967296) (read first.floor (omega (arith, first_fits)))

  upper_small : nat_abs (first.floor *ℤ pos 4294967296) < 2 ^ 62
  upper_small = let small = first_fits in simp linear (omega (arith, simp linear at small))

  low_small : second.digit * 65536 + third.digit < 2 ^ 32
  low_small = omega (arith, c.next_digit-second.ensures.small, c.next_digit-third.ensures.small)

  floor_is : stored (stored first.floor *ℤ pos 4294967296) +ℤ to_z w64 (second.digit * 65536 + third.digit)
      ≡ first.floor *ℤ pos 4294967296 +ℤ pos (second.digit * 65536 + third.digit)
  floor_is = ap₂ ◌+ℤ◌ (kept w64 upper (omega (arith, upper_small))) (to_z_pos w64 (omega (arith, low_small)))

  floor_fits : nat_abs (first.floor *ℤ pos 4294967296 +ℤ pos (second.digit * 65536 + third.digit)) < 2 ^ 63
  floor_fits = omega (arith, upper_small, low_small, nat_abs-+ (first.floor *ℤ pos 4294967296) (pos (second.digit * 65536 + third.digit)))

pub overflow_mul-result : goal.overflow_mul-result
overflow_mul-result c = fits (upper c) (omega (arith, upper_small c))

pub returns : goal.returns
returns c =
    subst (λ q. Divides (value_of c.args.n) c.args.d (record { floor = q; rest = (third c).rest }))
    (sym (kept w64 (floor_is c) (floor_fits c)))
    (divided_is c.args.n (split c) c.next_digit-second.ensures c.next_digit-third.ensures)
