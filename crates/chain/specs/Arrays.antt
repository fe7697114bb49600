-- What the arrays of the code stand for. An array of i64 is a list of whole numbers 31 or 961 long, of which the parts 0..2J count.
use Rattle.std.specs.Prelude.{ℕ, ◌+◌, ◌*◌, ◌≤◌, min, max, ◌≡◌, List, [], ℤ, ◌*ℤ◌, get_or}
use Rattle.std.proofs.Common.{ap, arith}
use Rattle.integers.specs.Summation.{sum}
use Rattle.definitions.specs.Words.{tab_from, part}
use Rattle.definitions.specs.Layout.{parts}
use Rattle.definitions.specs.Matrix.{Figures}
use Rattle.chain.specs.declared.arrays.Figures.{Figures as FlatFigures}

-- a mean, or another vector of one number for each part
abbrev pub mean_of : ℕ → List ℤ → List ℤ
mean_of last v = tab_from 0 (parts last) (part v)

-- Row k, column l of the matrix is at 31·k + l. Of two entries that mirror each other the one on or below the diagonal counts.
unfoldable pub cell : List ℤ → ℕ → ℕ → ℤ
cell A k l = part A (31 * max k l + min k l)

pub cell_at : (A : List ℤ) (k l : ℕ) → l ≤ k → cell A k l ≡ part A (31 * k + l)
unfolding cell
cell_at A k l before = ap (part A) (omega arith)

pub cell_mirrored : (A : List ℤ) (k l : ℕ) → cell A k l ≡ cell A l k
unfolding cell
cell_mirrored A k l = ap (part A) (omega arith)

-- the first n entries of row k times a vector
abbrev pub row_product : List ℤ → ℕ → ℕ → List ℤ → ℤ
row_product A k n μ = sum n (λ l. cell A k l *ℤ part μ l)

abbrev pub rows_of : ℕ → List ℤ → List (List ℤ)
rows_of last A = tab_from 0 (parts last) (λ k. tab_from 0 (parts last) (cell A k))

-- figures in arrays that are lent one by one
abbrev pub figures_at : ℕ → ℕ → List ℕ → List ℤ → List ℤ → FlatFigures
figures_at last closeness own A b = record { last = last; closeness = closeness; own = own; matrix = A; right_hand = b }

unfoldable pub figures_of : FlatFigures → Figures
figures_of F = record {
  last = F.last;
  closeness = F.closeness;
  own = tab_from 0 (parts F.last) (λ k. get_or F.own k 0);
  matrix = rows_of F.last F.matrix;
  right_hand_side = mean_of F.last F.right_hand;
}

-- The figures that residues and steps use: the matrix and a right-hand side, with no test of a mean.
abbrev pub system : ℕ → List ℤ → List ℤ → Figures
system last A b = record { last = last; closeness = 0; own = []; matrix = rows_of last A; right_hand_side = b }

abbrev pub system_of : FlatFigures → Figures
system_of F = system F.last F.matrix (mean_of F.last F.right_hand)
