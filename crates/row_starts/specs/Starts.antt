-- The contract of the starts of a J: the entries of the table from 16·J on.
use Rattle.std.specs.Prelude.{ℕ, ◌+◌, ◌*◌, ◌≤◌, ◌≡◌, List, get_or}
use Rattle.std.proofs.Common.{◌∙◌, arith}
use Rattle.definitions.specs.Layout.{row_start}
use Rattle.definitions.specs.RowStarts.{table_entry}
use Rattle.laws.specs.Filled.{Filled}
use Rattle.laws.proofs.Cells.{entry_starts}

pub record Starts (J : ℕ) (r : List ℕ) : Type 0 where
  pub filled : Filled 16 16 0 (λ year. table_entry (16 * J + year)) r

-- up to J they are the starts of its rows
pub starts_at : {J : ℕ} {r : List ℕ} → Starts J r → (year : ℕ) → year ≤ J → J ≤ 15 → get_or r year 0 ≡ row_start J year
starts_at {J} s year before few = s.filled.front year (omega arith) ∙ entry_starts J year before (omega arith)
