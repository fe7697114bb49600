-- `row_starts::starts_of` meets its contract. The rule is shown over the entire table by one test, which the checker computes: `refl`, that the
-- constant is the list of the rule's 256 numbers. The lemma `rule` turns it into the rule at each entry. The loop's invariant: the years
-- passed have their entries. Assumes nothing.
use Prim.Native.Nat.{ℕ, ◌+◌, ◌*◌}
use mathlib.Core.Path.{◌≡◌}
use mathlib.Core.List.{List}
use Rattle.definitions.specs.Words.{tab_from}
use Rattle.definitions.specs.RowStarts.{table_entry}
use Rattle.laws.specs.Filled.{Filled}
use Rattle.row_starts.proofs.starts_of.Given as goal

abbrev pub IsTable : List ℕ → Type 0
IsTable table = table ≡ tab_from 0 256 table_entry

abbrev pub invariant-loop-year : goal.invariant-loop-year
invariant-loop-year l =
    IsTable l.table × Filled 16 l.year 0 (λ y. table_entry (16 * l.last + y)) l.starts
