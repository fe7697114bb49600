-- `scales::logarithm_of` meets its contract. The loop's invariant: so many squarings are run.
use Rattle.std.proofs.Common.{arith}
use Rattle.scales.proofs.Squarings.{after_next, after_ticks}
use Rattle.scales.proofs.logarithm_of.Goals as goal

pub loop-preserved : goal.loop-preserved
loop-preserved c = after_next c.loop.invariant (omega arith) c.squared-s.ensures

pub returns : goal.returns
returns c = after_ticks c.loop.invariant (omega arith) c.start-s.ensures c.nearest.ensures
