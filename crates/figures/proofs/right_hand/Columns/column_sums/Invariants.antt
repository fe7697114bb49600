-- `figures::right_hand::Columns::column_sums` meets its contract. The loop's invariant: the parts passed have their sums.
use lib.IntN.{pos}
use Rattle.laws.specs.Filled.{Filled}
use Rattle.figures.specs.Sums.{column_sum}
use Rattle.figures.proofs.right_hand.Columns.column_sums.Given as goal

abbrev pub invariant-loop-k : goal.invariant-loop-k
invariant-loop-k l = Filled 31 l.k (pos 0) (column_sum l.self.ticks.now l.self.struck.now l.self.last) l.sums
