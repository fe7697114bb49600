-- `scales::squared` meets its contract: the square has 64 bits, and its highest bit is the definition's test.
use mathlib.Core.Path.{refl, ap}
use Prim.Native.Nat.{◌+◌, ◌*◌, ◌^◌}
use lib.Dec.{leb}
use Rattle.definitions.specs.Logarithm.{next_bit, next_Y}
use Rattle.scales.proofs.Bits.{square_below, highest, shifted, shifted_below}
use Rattle.scales.proofs.squared.Goals as goal

pub returns : goal.returns
unfolding next_bit next_Y
returns c =
    let y = c.before.args.s.y in
    let q = square_below y c.before.requires.0 in
    let b = leb (2 ^ 63) (y * y) in
    record {
      y = shifted (y * y) q b refl;
      bits = ap (λ n. 2 * c.before.args.s.bits + n) (highest (y * y) q b refl);
      small = rw (shifted (y * y) q b refl) (shifted_below (y * y) q b refl);
    }
