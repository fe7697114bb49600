-- The sweep of some parts. The invariant: before part k is visited, what is left of the sweep from k on gives the mean of the whole.
use Rattle.steps.specs.Sweep.{Sweeping}
use Rattle.steps.proofs.sweep.sweep_from.Given as goal

abbrev pub invariant-loop-k : goal.invariant-loop-k
invariant-loop-k l = Sweeping l.last l.matrix l.fn.working l.first l.end l.k l.current
