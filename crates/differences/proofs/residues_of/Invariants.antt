-- `residues_of` meets its contract. The loop's invariant: the residues of the first k parts are there.
use Prim.Native.Nat.{ℕ}
use mathlib.Core.List.{List}
use lib.IntN.{ℤ, pos}
use Rattle.definitions.specs.Words.{part}
use Rattle.definitions.specs.Residues.{observed_times}
use Rattle.laws.specs.Filled.{Filled}
use Rattle.observations.specs.Arrays.{observations_at}
use Rattle.differences.specs.Differences.{left_in}
use Rattle.differences.proofs.residues_of.Given as goal

-- the residues that are filled in
abbrev pub residue_of : List ℤ → List ℕ → List ℕ → List ℤ → ℕ → List ℕ → ℕ → ℤ
residue_of ticks weights struck mean last variances =
    observed_times (left_in last (observations_at ticks weights variances struck)) 1 (part mean)

abbrev pub invariant-loop-k : goal.invariant-loop-k
invariant-loop-k l =
    (variances : List ℕ) → Filled 31 l.k (pos 0) (residue_of l.ticks l.weights l.struck l.mean l.last variances) l.residues
