-- `figures::right_hand::Columns::step_sum` meets its contract. The loop's invariant: the total is that of the years before i.
use mathlib.Core.Path.{◌≡◌}
use Rattle.integers.specs.Sum.{sum}
use Rattle.figures.specs.Sums.{step_of, counted_at}
use Rattle.figures.proofs.right_hand.Columns.step_sum.Given as goal

abbrev pub invariant-loop-i : goal.invariant-loop-i
invariant-loop-i l =
    l.total ≡ sum l.i (counted_at l.self.struck.now l.k (step_of l.self.ticks.now l.self.last l.block l.column))
