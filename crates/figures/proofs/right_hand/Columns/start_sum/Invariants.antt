-- `figures::right_hand::Columns::start_sum` meets its contract. The loop's invariant: the total is that of the years before i.
use mathlib.Core.Path.{◌≡◌}
use Rattle.integers.specs.Sum.{sum}
use Rattle.definitions.specs.Words.{part}
use Rattle.definitions.specs.Layout.{row_start}
use Rattle.figures.specs.Sums.{counted_at}
use Rattle.figures.proofs.right_hand.Columns.start_sum.Given as goal

abbrev pub invariant-loop-i : goal.invariant-loop-i
invariant-loop-i l =
    l.total ≡ sum l.i (counted_at l.self.struck.now 0 (λ y. part l.self.ticks.now (row_start l.self.last y)))
