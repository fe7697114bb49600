-- The table once more, with nothing named: for every J and year, what the starts of a J hold.
use Rattle.std.specs.Prelude.{ℕ, ◌+◌, ◌*◌, ◌-◌, ◌/◌, ◌≤◌, ◌<◌, ◌≡◌, refl, List, get_or, length}
use Rattle.std.proofs.Common.{◌∙◌, arith, le-leb}
use Rattle.std.proofs.lemmas.Bool.{lt-leb}
use Rattle.laws.proofs.Cells.{entry_at}
use Rattle.row_starts.specs.Starts.{Starts}

module _ (J : ℕ) (r : List ℕ) (starts : Starts J r) where
  pub sixteen : length r ≡ 16
  sixteen = starts.filled.long

  pub cells_counted : (year : ℕ) → year ≤ 15 → year ≤ J → get_or r year 0 ≡ year * (J + 1) - year * (year - 1) / 2
  cells_counted year few before = starts.filled.front year (omega arith) ∙ entry_at J year few ∙ rw (le-leb year J before) refl

  pub none_counted : (year : ℕ) → year ≤ 15 → J < year → get_or r year 0 ≡ 0
  none_counted year few past = starts.filled.front year (omega arith) ∙ entry_at J year few ∙ rw (lt-leb year J past) refl
