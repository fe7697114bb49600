-- `scales::four_logarithms_of` meets its contract. The loop's invariant: so many squarings of each are run.
use Rattle.std.proofs.Common.{arith}
use Rattle.scales.proofs.Squarings.{after_next, after_ticks}
use Rattle.scales.proofs.four_logarithms_of.Goals as goal

pub loop-preserved : goal.loop-preserved
loop-preserved c =
    let l = c.loop.invariant in (
      after_next l.0 (omega arith) c.squared-first.ensures,
      after_next l.1 (omega arith) c.squared-second.ensures,
      after_next l.2 (omega arith) c.squared-third.ensures,
      after_next l.3 (omega arith) c.squared-fourth.ensures,
    )

pub returns : goal.returns
returns c =
    let l = c.loop.invariant in
    record {
      first = after_ticks l.0 (omega arith) c.start-first.ensures c.nearest.ensures;
      second = after_ticks l.1 (omega arith) c.start-second.ensures c.nearest-2.ensures;
      third = after_ticks l.2 (omega arith) c.start-third.ensures c.nearest-3.ensures;
      fourth = after_ticks l.3 (omega arith) c.start-fourth.ensures c.nearest-4.ensures;
    }
