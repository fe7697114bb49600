-- The next two digits stand behind those of the bytes before.
use Rattle.std.proofs.Common.{arith, refl, length-set}
use Rattle.calls.specs.Hex.{hex_of, hex_next}
use Rattle.calls.proofs.printing.hex.Goals as goal

pub loop-byte-init : goal.loop-byte-init
unfolding hex_of
loop-byte-init c = record { inside = omega arith; pairs = refl; digits = refl }

pub loop-byte-preserved : goal.loop-byte-preserved
loop-byte-preserved c =
    let l = c.loop-byte in record {
      inside = simp length-set (omega arith);
      pairs = omega arith;
      digits = hex_next l.text _ l.end l.byte-index _ _ (omega arith) (omega arith) l.invariant.digits c.digit.ensures c.digit-in-loop-byte.ensures;
    }
