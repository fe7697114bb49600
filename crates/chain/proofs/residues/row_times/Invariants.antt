-- Row k up to its diagonal. Shown: the entries so far are in the bounds, the sum is that of their products, and the residues of the parts
-- so far have the mirrored products added. None of them wraps, since the entries and the mean are in the bounds. Assumes nothing.
use Prim.Native.Nat.{ℕ, ◌≤◌, ◌<◌}
use mathlib.Core.Path.{◌≡◌}
use lib.IntN.{nat_abs, ◌+ℤ◌, ◌*ℤ◌}
use Rattle.definitions.specs.Words.{part}
use Rattle.chain.specs.Arrays.{cell, row_product}
use Rattle.chain.specs.Fitting.{entry_limit}
use Rattle.chain.specs.Turned.{Turned}
use Rattle.chain.proofs.residues.row_times.Given as goal

abbrev pub invariant-loop-l : goal.invariant-loop-l
invariant-loop-l l =
    ((i : ℕ) → i < l.l → nat_abs (cell l.matrix l.k i) ≤ entry_limit)
    × (l.sum ≡ row_product l.matrix l.k l.l l.mean)
    × Turned l.l (λ i. part l.initial.residues i +ℤ cell l.matrix l.k i *ℤ part l.mean l.k) (part l.initial.residues) l.residues
