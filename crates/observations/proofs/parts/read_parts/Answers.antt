-- `observations::parts::read_parts` meets its contract. The loop's invariant: the parts passed are read.
use native.Mathlib.Omega.{arith}
use Rattle.observations.proofs.ReadLaws.{parts_none, parts_to}
use Rattle.observations.proofs.parts.read_parts.Goals as goal

pub loop-k-init : goal.loop-k-init
loop-k-init c = parts_none c.requires

pub read_part-requires : goal.read_part-requires
read_part-requires c =
    record {
      whole = c.requires.whole;
      below = omega (arith, c.parts_of-count.ensures, c.last_year.ensures);
      so_far = c.loop-k.invariant;
    }

pub loop-k-preserved : goal.loop-k-preserved
loop-k-preserved c = c.read_part.ensures

pub returns : goal.returns
returns c =
    record { all = parts_to (omega (arith, c.parts_of-count.ensures, c.last_year.ensures)) c.loop-k.invariant }
