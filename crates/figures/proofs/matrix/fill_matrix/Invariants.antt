-- `figures::matrix::fill_matrix` meets its contract. The loop's invariant: the rows passed are filled.
use Rattle.figures.specs.Entries.{RowsTo}
use Rattle.figures.proofs.matrix.fill_matrix.Given as goal

abbrev pub invariant-loop-k : goal.invariant-loop-k
invariant-loop-k l = RowsTo l.k l.own l.shares l.last l.matrix
