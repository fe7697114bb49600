-- `layout::checks::file::check_10` meets its contract: the two fields are the last amounts of year 0, and both end inside the file.
-- Assumes nothing.
use mathlib.Core.Path.{◌≡◌, sym, ap, ◌∙◌}
use Prim.Native.Nat.{◌+◌, ◌*◌, ◌≤◌, ℕ, zero-le}
use native.Mathlib.Omega.{arith}
use borrow.Author.Tests.{eq-eqb, ne_eqb}
use lib.ListN.{length}
use Rattle.definitions.specs.Layout.{Bytes, unsigned, last_year, cells, paid_at, incurred_at, paid, incurred}
use Rattle.definitions.specs.Refusals.{check10, refuses}
use Rattle.laws.proofs.Cells.{row_start_is, row_in_block}
use Rattle.layout.specs.Checks.{Whole}
use Rattle.layout.specs.Places.{amount_inside}
use Rattle.fields.specs.Fields.{field_read, field_outside}
use Rattle.layout.specs.CheckLaws.{unless_holds, unless_fails}
use Rattle.layout.proofs.checks.file.check_10.Goals as goal
use Rattle.layout.proofs.checks.file.check_10.Goals.{After-cells_of}

-- the last cell of year 0, in each block
paid_inside : (s : Bytes) → Whole s → paid_at (last_year s) 0 (last_year s) + 8 ≤ length s
paid_inside s w = amount_inside s w _ (omega (arith, row_in_block (last_year s) 0 (omega arith)))

incurred_inside : (s : Bytes) → Whole s → incurred_at (last_year s) 0 (last_year s) + 8 ≤ length s
incurred_inside s w = amount_inside s w _ (omega (arith, row_in_block (last_year s) 0 (omega arith)))

-- the places of both as the code finds them
module _ (c : After-cells_of) where
  abbrev file : Bytes
  file = c.args.s.now

  abbrev paid_found : ℕ
  paid_found = c.amounts_at.result + 8 * c.last_year-last.result

  abbrev incurred_found : ℕ
  incurred_found = paid_found + 8 * c.cells_of.result

  abbrev is_whole : Whole file
  is_whole = c.requires

paid-place : (c : After-cells_of) → let J = last_year (file c) in paid_found c ≡ paid_at J 0 J
paid-place c = omega (arith, row_start_is (last_year (file c)) 0 zero-le)

incurred-place : (c : After-cells_of) → let J = last_year (file c) in incurred_found c ≡ incurred_at J 0 J
incurred-place c =
    let J = last_year (file c) in
    let all : c.cells_of.result ≡ cells J = c.cells_of.ensures ∙ ap cells c.last_year-last.ensures in
    omega (arith, row_start_is J 0 zero-le)

pub overflow_mul-incurred_at : goal.overflow_mul-incurred_at
overflow_mul-incurred_at c = omega (arith, incurred-place c, incurred_inside (file c) (is_whole c))

pub overflow_add-incurred_at : goal.overflow_add-incurred_at
overflow_add-incurred_at c = omega (arith, incurred-place c, incurred_inside (file c) (is_whole c))

pub returns-in_default : goal.returns-in_default
returns-in_default c =
    let after_cells_of = (goal.at.returns-in_default c).After-cells_of in
    let outside = field_outside 8 (paid_found after_cells_of) (file after_cells_of) c.unsigned_8.ensures c.in_default.is in
    absurd (omega (arith, paid-place after_cells_of, paid_inside (file after_cells_of) (is_whole after_cells_of), outside))

pub returns-in_default-unsigned_8 : goal.returns-in_default-unsigned_8
returns-in_default-unsigned_8 c =
    let after_cells_of = (goal.at.returns-in_default-unsigned_8 c).After-cells_of in
    let outside = field_outside 8 (incurred_found after_cells_of) (file after_cells_of) c.unsigned_8-2.ensures c.in_default-unsigned_8.is in
    absurd (omega (arith, incurred-place after_cells_of, incurred_inside (file after_cells_of) (is_whole after_cells_of), outside))

pub returns-then-paid-incurred : goal.returns-then-paid-incurred
unfolding check10
returns-then-paid-incurred c =
    let d = (goal.at.returns-then-paid-incurred c).After-cells_of in
    let s = file d in
    let J = last_year s in
    let paid-read = field_read 8 (paid_found d) s c.unsigned_8.ensures c.in-Some.is ∙ ap (λ at. unsigned 8 at s) (paid-place d) in
    let incurred-read =
    field_read 8 (incurred_found d) s c.unsigned_8-2.ensures c.in-Some-unsigned_8.is ∙ ap (λ at. unsigned 8 at s) (incurred-place d) in
    rw c.at-then-paid-incurred.ensures
    (ap (refuses 10) (paid-place d)
    ∙ unless_fails 10 (paid_at J 0 J)
    (ne_eqb (paid s 0 J) (incurred s 0 J) (λ h. c.if-paid-incurred.true (paid-read ∙ h ∙ sym incurred-read))))

pub returns : goal.returns
unfolding check10
returns c =
    let d = (goal.at.returns c).After-cells_of in
    let s = file d in
    let J = last_year s in
    let paid-read = field_read 8 (paid_found d) s c.unsigned_8.ensures c.in-Some.is ∙ ap (λ at. unsigned 8 at s) (paid-place d) in
    let incurred-read =
    field_read 8 (incurred_found d) s c.unsigned_8-2.ensures c.in-Some-unsigned_8.is ∙ ap (λ at. unsigned 8 at s) (incurred-place d) in
    unless_holds 10 (paid_at J 0 J) (eq-eqb (paid s 0 J) (incurred s 0 J) (sym paid-read ∙ c.if-paid-incurred.false ∙ incurred-read))
