-- `records::put_parts` meets its contract. The loop's invariant: the bytes of the parts passed stand behind the first five, and
-- the bytes behind them are as they were. The measure is how many are left. Assumes nothing.
use mathlib.Core.Path.{◌≡◌}
use lib.ListN.{length}
use Rattle.records.specs.Records.{with_parts}
use Rattle.records.proofs.put_parts.Given as goal

abbrev pub invariant-loop-k : goal.invariant-loop-k
invariant-loop-k l = (l.buf ≡ with_parts l.initial.buf l.mean l.k) × (length l.buf ≡ length l.initial.buf)
