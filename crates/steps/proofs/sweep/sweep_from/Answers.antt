-- The sweep of some parts. The invariant: before part k is visited, what is left of the sweep from k on gives the mean of the whole.
use Rattle.std.proofs.Common.{arith}
use Rattle.steps.specs.Sweep.{sweeping_next, sweeping_all}
use Rattle.steps.proofs.sweep.sweep_from.Goals as goal

pub loop-k-preserved : goal.loop-k-preserved
loop-k-preserved c = grind (arith, sweeping_next)

pub returns : goal.returns
returns c = sweeping_all c.requires c.loop-k.invariant c.loop-k-test.false
