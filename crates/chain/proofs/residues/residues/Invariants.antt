-- The residues of a mean. Shown: the rows below k fit, and the residues of the parts below k have their first k products. Assumes nothing.
use Prim.Native.Nat.{ℕ}
use mathlib.Core.List.{List}
use lib.IntN.{ℤ, pos, ◌-ℤ◌}
use Rattle.definitions.specs.Words.{part}
use Rattle.chain.specs.Arrays.{row_product}
use Rattle.chain.specs.Residues.{RowsFit}
use Rattle.chain.specs.Turned.{Turned}
use Rattle.chain.proofs.residues.residues.Given as goal

-- the residue of part i by its first n products
abbrev pub so_far_of : List ℤ → List ℤ → List ℤ → ℕ → ℕ → ℤ
so_far_of A b μ n i = row_product A i n μ -ℤ part b i

abbrev pub invariant-loop-k : goal.invariant-loop-k
invariant-loop-k l =
    RowsFit l.matrix l.k × Turned l.k (so_far_of l.matrix l.right_hand l.mean l.k) (λ i. pos 0) l.found
