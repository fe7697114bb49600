-- `scales::start` meets its contract: the highest one bit's place is 63 less the leading zeros, so that the shift up loses no bit,
-- and y is the definition's whichever way that shifts the amount.
use native.Mathlib.Omega.{arith}
use mathlib.Core.Path.{refl, ap, ◌∙◌}
use Prim.Native.Nat.{◌-◌, ◌/◌, ◌^◌}
use lib.Count.{count_leading_zeros}
use Rattle.definitions.specs.Logarithm.{highest_bit, start_from}
use Rattle.scales.proofs.Bits.{leading_below, brought_up, started}
use Rattle.scales.proofs.start.Goals as goal

pub returns-then-a-eq0 : goal.returns-then-a-eq0
unfolding highest_bit start_from count_leading_zeros
returns-then-a-eq0 c = rw c.if-a-eq0.true (record { y = refl; bits = refl; small = omega arith; few = omega arith })

pub returns : goal.returns
unfolding highest_bit
returns c =
    let a = c.before.args.a in
    let zeros = count_leading_zeros 64 a in
    let whole = brought_up a (omega (arith, c.if-a-eq0.false)) c.before.ranges.a.fits in
    record {
      y = ap (λ n. n / 2 ^ 32) whole ∙ started a (63 - zeros) zeros (omega (arith, leading_below a (omega (arith, c.if-a-eq0.false)) c.before.ranges.a.fits));
      bits = refl;
      small = omega arith;
      few = omega arith;
    }
