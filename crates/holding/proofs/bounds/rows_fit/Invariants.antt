-- `bounds::rows_fit` meets its contract. The loop's invariant: the rows before k fit.
use Rattle.chain.specs.Residues.{RowsFit}
use Rattle.holding.proofs.bounds.rows_fit.Given as goal

abbrev pub invariant-loop-k : goal.invariant-loop-k
invariant-loop-k l = RowsFit l.matrix l.k
