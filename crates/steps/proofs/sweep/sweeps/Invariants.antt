-- The sweeps of a call. Shown: what is left to run gives the whole result, and the working mean has its residues throughout (`Running`). Assumes nothing.
use Rattle.std.proofs.Common.{◌-◌}
use Rattle.chain.specs.Arrays.{figures_at}
use Rattle.steps.specs.Sweeps.{Running}
use Rattle.steps.proofs.sweep.sweeps.Given as goal

abbrev pub invariant-loop : goal.invariant-loop
invariant-loop l =
    Running (figures_at l.last l.closeness l.own l.matrix l._right_hand) l.initial.current l.total l.n l.current l.run (l.n - l.counter) l.passed
