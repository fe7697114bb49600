-- Figures and means that 64 bits suffice for. Of the matrix the entries on and below the diagonal are bounded. A row then comes to at most
-- 30·2^31 + 2^33 = 17·2^32 in size, and a residue to 17·2^58 + 2^59, which with half a diagonal entry is below 2^63; a part changes by at
-- most 2^27, and an entry times that is at most 2^60.
use Rattle.std.specs.Prelude.{ℕ, ◌+◌, ◌*◌, ◌-◌, ◌^◌, ◌≤◌, ◌<◌, List, ℤ, pos, nat_abs, ◌≤ℤ◌, get_or}
use Rattle.definitions.specs.Words.{part}
use Rattle.definitions.specs.Layout.{parts}
use Rattle.definitions.specs.Refusals.{year_limit, closeness_limit, part_limit}
use Rattle.definitions.specs.Matrix.{Figures, entry}

-- off the diagonal; below 2^31, so that the code's test of both sides is one
abbrev pub entry_limit : ℕ
entry_limit = 2 ^ 31 - 1

abbrev pub diagonal_limit : ℕ
diagonal_limit = 2 ^ 33

-- what follows for the sizes of a row
abbrev pub row_limit : ℕ
row_limit = 17 * 2 ^ 32

abbrev pub own_limit : ℕ
own_limit = 2 ^ 33

abbrev pub right_hand_limit : ℕ
right_hand_limit = 2 ^ 59

-- and for that of a residue
abbrev pub residue_limit : ℕ
residue_limit = row_limit * part_limit + right_hand_limit

pub record Fitting (F : Figures) : Type 0 where
  pub years : F.last ≤ year_limit
  pub close : F.closeness ≤ closeness_limit
  pub own_weights : (k : ℕ) → k < parts F.last → get_or F.own k 0 ≤ own_limit
  pub entries : (k : ℕ) → k < parts F.last → (l : ℕ) → l < k → nat_abs (entry F k l) ≤ entry_limit
  pub diagonal : (k : ℕ) → k < parts F.last → pos 1 ≤ℤ entry F k k
  pub diagonal_to : (k : ℕ) → k < parts F.last → entry F k k ≤ℤ pos diagonal_limit
  pub right_hand : (k : ℕ) → k < parts F.last → nat_abs (part F.right_hand_side k) ≤ right_hand_limit

-- the parts of a mean are within the limits
pub record Inside (n : ℕ) (μ : List ℤ) : Type 0 where
  pub small : (k : ℕ) → k < n → nat_abs (part μ k) ≤ part_limit
