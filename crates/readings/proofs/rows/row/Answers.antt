-- It shows the row where `row_told` finds nothing to refuse, and else an empty part.
use Rattle.std.proofs.Common.{◌≡◌, ℕ, sym, true, false, refl, [], Result, Ok, Err}
use Rattle.std.specs.Result.{is_err}
use Rattle.definitions.specs.Layout.{Bytes}
use Rattle.definitions.specs.Refusals.{clear, row_check}
use Rattle.definitions.specs.Machine.{row_part}
use Rattle.layout.specs.declared.refusals.Refusal.{Refusal}
use Rattle.layout.specs.Refusals.{told}
use Rattle.layout.specs.CheckLaws.{row_shown}
use Rattle.readings.proofs.rows.row.Goals as goal
use Rattle.readings.proofs.rows.row.Goals.{Else-is_err}

module _ (s : Bytes) (channel year : ℕ) {X : Type 0} where
  hidden : (r : Result X Refusal) → told r ≡ row_check s channel year → true ≡ is_err r → [] ≡ row_part s channel year
  unfolding row_part
  hidden (Ok x) e k = cc
  hidden (Err x) e k = rw (← e) refl

  found : (r : Result X Refusal) → told r ≡ row_check s channel year → false ≡ is_err r → row_check s channel year ≡ clear
  found (Ok x) e k = sym e
  found (Err x) e k = cc

shown : (c : Else-is_err) → let a = c.args in row_check a.s.now a.channel a.year ≡ clear
shown c = let a = c.args in found a.s.now a.channel a.year c.row_told.result c.row_told.ensures c.if-is_err.ensures.value

pub returns-then-is_err : goal.returns-then-is_err
returns-then-is_err c = let a = c.args in hidden a.s.now a.channel a.year c.row_told.result c.row_told.ensures c.if-is_err.ensures.value

pub shown_row-requires : goal.shown_row-requires
shown_row-requires c = let a = c.args in row_shown a.s.now a.channel a.year (shown c)

pub returns : goal.returns
unfolding row_part
returns c = rw (shown (goal.at.returns c).Else-is_err) c.shown_row.ensures
