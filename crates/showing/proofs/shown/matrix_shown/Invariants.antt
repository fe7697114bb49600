-- `shown::matrix_shown` meets its contract. The loop's invariant: the rows so far fit, and are put in both halves.
use Prim.Native.Nat.{◌*◌}
use Rattle.chain.specs.Residues.{RowsFit}
use Rattle.showing.specs.Mirrored.{Mirrored}
use Rattle.showing.proofs.shown.matrix_shown.Given as goal

abbrev pub invariant-loop-k : goal.invariant-loop-k
invariant-loop-k l = RowsFit l.matrix l.k × Mirrored l.matrix (31 * l.k) l.shown
