-- The contracts of the matrix, over arrays of own weights and of sums of g.
use Rattle.std.specs.Prelude.{ℕ, ◌+◌, ◌*◌, ◌^◌, ◌≤◌, ◌<◌, min, ◌≡◌, List, eqb, ℤ, pos, neg_ℤ, nat_abs, ◌+ℤ◌, ◌*ℤ◌, length}
use Rattle.integers.specs.SumRange.{only}
use Rattle.definitions.specs.Words.{part}
use Rattle.definitions.specs.Layout.{parts}
use Rattle.definitions.specs.Refusals.{year_limit}
use Rattle.definitions.specs.Matrix.{Part, Φ, Ψ, part_by_index}
use Rattle.laws.specs.Ranks.{rank_of, sign_of}
use Rattle.observations.specs.Arrays.{at}

-- the matrix by ranks, of arrays: what two parts share, and on the diagonal the own weight besides
abbrev pub share_of : List ℤ → ℕ → ℕ → ℕ → ℤ
share_of shares J k l =
    sign_of (part_by_index J k) *ℤ sign_of (part_by_index J l)
    *ℤ part shares (min (rank_of (part_by_index J k)) (rank_of (part_by_index J l)))

unfoldable pub entry_of : List ℕ → List ℤ → ℕ → ℕ → ℕ → ℤ
entry_of own shares J k l = only (eqb k l) (pos (at own k)) +ℤ share_of shares J k l

pub record OfMatrix (own : List ℕ) (shares : List ℤ) (last : ℕ) : Type 0 where
  pub few : last ≤ year_limit
  pub own_small : (k : ℕ) → k < parts last → at own k < 2 ^ 40
  pub shares_small : (n : ℕ) → n ≤ last → nat_abs (part shares n) < 2 ^ 40

pub record OfRow (own : List ℕ) (shares : List ℤ) (last k : ℕ) : Type 0 where
  pub of_matrix : OfMatrix own shares last
  pub row : k < parts last

-- n cells of a flat matrix from `at` on are those of f, and the cells before them are as they were
pub record Stretch (n at : ℕ) (f : ℕ → ℤ) (before m : List ℤ) : Type 0 where
  pub long : length m ≡ 961
  pub there : (i : ℕ) → i < n → part m (at + i) ≡ f i
  pub earlier : (i : ℕ) → i < at → part m i ≡ part before i

-- what is shared, with its sign turned
pub record OfTurned (shares : List ℤ) (last : ℕ) : Type 0 where
  pub few : last ≤ year_limit
  pub small : (n : ℕ) → n ≤ last → nat_abs (part shares n) < 2 ^ 40

pub record Turned (shares : List ℤ) (last : ℕ) (r : List ℤ) : Type 0 where
  pub turns : (n : ℕ) → n ≤ last → part r n ≡ neg_ℤ (part shares n)

-- by a part of one rank, with parts whose ranks go up
abbrev pub run_of : List ℤ → ℕ → ℕ → ℕ → ℤ
run_of shares rank first i = part shares (min rank (first + i))

pub record OfRun (m shares : List ℤ) (rank at first count : ℕ) : Type 0 where
  pub long : length m ≡ 961
  pub room : at + count ≤ 961
  pub ranked : rank ≤ year_limit
  pub from : first ≤ 1
  pub small : (n : ℕ) → n ≤ rank → nat_abs (part shares n) < 2 ^ 40

-- by part k with part l, from the sums signed for a Φ and for a Ψ
abbrev pub of_kind : List ℤ → List ℤ → Part → List ℤ
of_kind phis psis (Φ j) = phis
of_kind phis psis (Ψ j) = psis

unfoldable pub shared_by : List ℤ → List ℤ → ℕ → ℕ → ℕ → ℤ
shared_by phis psis J k l = part (of_kind phis psis (part_by_index J l)) (min (rank_of (part_by_index J k)) (rank_of (part_by_index J l)))

pub record OfShares (m phis psis : List ℤ) (last k : ℕ) : Type 0 where
  pub long : length m ≡ 961
  pub few : last ≤ year_limit
  pub row : k < parts last
  pub phis_small : (n : ℕ) → n ≤ last → nat_abs (part phis n) < 2 ^ 40
  pub psis_small : (n : ℕ) → n ≤ last → nat_abs (part psis n) < 2 ^ 40

-- a matrix whose row is to be filled
pub record OfFill (m : List ℤ) (own : List ℕ) (shares turned : List ℤ) (last k : ℕ) : Type 0 where
  pub long : length m ≡ 961
  pub of_row : OfRow own shares last k
  pub of_turned : Turned shares last turned

pub record RowOf (before : List ℤ) (own : List ℕ) (shares : List ℤ) (last k : ℕ) (m : List ℤ) : Type 0 where
  pub whole : Stretch (parts last) (31 * k) (entry_of own shares last k) before m

-- rows below n
pub record RowsTo (n : ℕ) (own : List ℕ) (shares : List ℤ) (last : ℕ) (m : List ℤ) : Type 0 where
  pub long : length m ≡ 961
  pub there : (k : ℕ) → k < n → (l : ℕ) → l < parts last → part m (31 * k + l) ≡ entry_of own shares last k l

pub record MatrixOf (own : List ℕ) (shares : List ℤ) (last : ℕ) (m : List ℤ) : Type 0 where
  pub whole : RowsTo (parts last) own shares last m
