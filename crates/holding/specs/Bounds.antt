-- What a session is tested for besides the entries off the diagonal, part by part.
use Rattle.std.specs.Prelude.{ℕ, ◌≤◌, ◌<◌, List, ℤ, pos, nat_abs, ◌≤ℤ◌, get_or}
use Rattle.definitions.specs.Words.{part}
use Rattle.definitions.specs.Layout.{parts}
use Rattle.definitions.specs.Refusals.{year_limit, closeness_limit, part_limit}
use Rattle.definitions.specs.Sweep.{sweep_limit}
use Rattle.chain.specs.Arrays.{cell}
use Rattle.chain.specs.Fitting.{own_limit, diagonal_limit, right_hand_limit}

pub record PartFits (own : ℕ) (diagonal right_hand mean : ℤ) : Type 0 where
  pub own_to : own ≤ own_limit
  pub diagonal_from : pos 1 ≤ℤ diagonal
  pub diagonal_to : diagonal ≤ℤ pos diagonal_limit
  pub right_hand_to : nat_abs right_hand ≤ right_hand_limit
  pub mean_to : nat_abs mean ≤ part_limit

pub record OfBounds (count : ℕ) : Type 0 where
  pub few : count ≤ 31

-- the first n parts
abbrev pub PartsFit : List ℕ → List ℤ → List ℤ → List ℤ → ℕ → Type 0
PartsFit D A b μ n = (k : ℕ) → k < n → PartFits (get_or D k 0) (cell A k k) (part b k) (part μ k)

-- something is held, and all but its rows is inside the bounds
pub record FrameFits (last closeness total : ℕ) (D : List ℕ) (A b μ : List ℤ) : Type 0 where
  pub holding : 1 ≤ last
  pub years : last ≤ year_limit
  pub close : closeness ≤ closeness_limit
  pub few : total ≤ sweep_limit
  pub parts_fit : PartsFit D A b μ (parts last)
