-- The residues follow a change of one part. Shown: the residues below l have the column's product added, and those from l on have not; up to the diagonal the
-- column is read by its mirror. Assumes nothing.
use lib.Dec.{leb}
use lib.IntN.{◌+ℤ◌, ◌*ℤ◌}
use Rattle.integers.specs.SumRange.{only}
use Rattle.definitions.specs.Words.{part}
use Rattle.chain.specs.Arrays.{cell}
use Rattle.chain.specs.Turned.{Turned}
use Rattle.steps.proofs.step.follow.Given as goal

abbrev pub invariant-loop-l : goal.invariant-loop-l
invariant-loop-l l =
    Turned l.l (λ i. part l.initial.residues i +ℤ cell l.matrix i l.k *ℤ l.change) (part l.initial.residues) l.residues

abbrev pub invariant-loop-l-2 : goal.invariant-loop-l-2
invariant-loop-l-2 l =
    Turned l.l (λ i. part l.initial.residues i +ℤ only (leb l.k i) (cell l.matrix i l.k *ℤ l.change)) (part l.initial.residues) l.residues
