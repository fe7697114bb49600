-- `write_residues` meets its contract. The loop's invariant: the bytes of the residues passed stand at the front, and the bytes behind them
-- are as they were.
use mathlib.Core.Path.{◌≡◌}
use lib.ListN.{length}
use Rattle.laws.proofs.NumberBytes.{with_numbers}
use Rattle.weighing.proofs.bytes.write_residues.Given as goal

abbrev pub invariant-loop-k : goal.invariant-loop-k
invariant-loop-k l = (l.buf ≡ with_numbers 8 0 l.initial.buf l.residues l.k) × (length l.buf ≡ length l.initial.buf)
