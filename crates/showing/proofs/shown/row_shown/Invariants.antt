-- `shown::row_shown` meets its contract. The loop's invariant: the entries of the row so far fit, and are put in both halves.
use Prim.Native.Nat.{ℕ, ◌+◌, ◌≤◌, ◌<◌}
use mathlib.Core.List.{List}
use lib.IntN.{ℤ, nat_abs}
use Rattle.chain.specs.Arrays.{cell}
use Rattle.chain.specs.Fitting.{entry_limit}
use Rattle.showing.specs.Mirrored.{Mirrored}
use Rattle.showing.proofs.shown.row_shown.Given as goal

abbrev pub FitsAt : List ℤ → ℕ → ℕ → Type 0
FitsAt A k l = nat_abs (cell A k l) ≤ entry_limit

abbrev pub invariant-loop-l : goal.invariant-loop-l
invariant-loop-l l = ((i : ℕ) → i < l.l → FitsAt l.matrix l.k i) × Mirrored l.matrix (l.row + l.l) l.shown
