-- The contracts of the residues: what they ask, and what they give.
use Rattle.std.specs.Prelude.{ℕ, ◌+◌, ◌≤◌, ◌<◌, ◌≡◌, List, ℤ, nat_abs, ◌+ℤ◌, ◌*ℤ◌, length, Option, MatchOption}
use Rattle.definitions.specs.Words.{part}
use Rattle.definitions.specs.Layout.{parts}
use Rattle.definitions.specs.Refusals.{year_limit}
use Rattle.definitions.specs.Matrix.{residue}
use Rattle.chain.specs.Arrays.{system, mean_of, cell, row_product}
use Rattle.chain.specs.Fitting.{Inside, entry_limit, diagonal_limit, right_hand_limit, residue_limit}
use Rattle.chain.specs.Turned.{Turned}

-- a row whose entries before the diagonal are no larger than 64 bits suffice for
abbrev pub RowFits : List ℤ → ℕ → Type 0
RowFits A k = (l : ℕ) → l < k → nat_abs (cell A k l) ≤ entry_limit

abbrev pub RowsFit : List ℤ → ℕ → Type 0
RowsFit A count = (k : ℕ) → k < count → RowFits A k

-- ---- one row, and the residues v of the parts before it

pub record OfRow (μ v : List ℤ) (k : ℕ) : Type 0 where
  pub few : k < 31
  pub inside : Inside (k + 1) μ
  pub long : length v ≡ 31
  pub small : (i : ℕ) → i < k → nat_abs (part v i) ≤ residue_limit

pub record RowAdded (A μ v : List ℤ) (k : ℕ) (sum : ℤ) (w : List ℤ) : Type 0 where
  pub fits : RowFits A k
  pub is : sum ≡ row_product A k k μ
  pub mirrored : Turned k (λ i. part v i +ℤ cell A k i *ℤ part μ k) (part v) w

-- the sum just where the row fits
abbrev pub RowTimes : List ℤ → List ℤ → List ℤ → ℕ → Option ℤ → List ℤ → Type 0
RowTimes A μ v k r w = MatchOption r (¬ RowFits A k) (λ sum. RowAdded A μ v k sum w)

-- ---- all rows

pub record OfMean (last : ℕ) (A b μ : List ℤ) : Type 0 where
  pub years : last ≤ year_limit
  pub inside : Inside (parts last) μ
  pub diagonal : (k : ℕ) → k < parts last → nat_abs (cell A k k) ≤ diagonal_limit
  pub right_hand : (k : ℕ) → k < parts last → nat_abs (part b k) ≤ right_hand_limit

pub record ResiduesOf (last : ℕ) (A b μ r : List ℤ) : Type 0 where
  pub at : (k : ℕ) → k < parts last → part r k ≡ residue (system last A (mean_of last b)) (part (mean_of last μ)) k

-- residues that were found, every row fitting
pub record FoundOf (last : ℕ) (A b μ r : List ℤ) : Type 0 where
  pub fit : RowsFit A (parts last)
  pub are : ResiduesOf last A b μ r

-- found just where every row fits
abbrev pub TestedOf : ℕ → List ℤ → List ℤ → List ℤ → Option (List ℤ) → Type 0
TestedOf last A b μ r = MatchOption r (¬ RowsFit A (parts last)) (λ v. FoundOf last A b μ v)
