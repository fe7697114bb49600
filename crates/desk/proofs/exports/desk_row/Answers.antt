-- It tells the refusal, or where the row stands.
use Rattle.std.proofs.Common.{sym}
use Rattle.layout.specs.Refusals.{number_of}
use Rattle.layout.specs.CheckLaws.{row_shown}
use Rattle.desk.proofs.CallLaws.{row_refused, row_shows}
use Rattle.desk.proofs.exports.desk_row.Goals as goal

pub returns-in-Err : goal.returns-in-Err
returns-in-Err c =
    let a = c.args in
    let r = c.in-Err.refusal in
    rw (c.row_as.ensures, c.into.ensures) (row_refused a.file.now a.channel a.year (number_of r.reason) r.place (sym c.in-Err.ensures))

pub row_place-found-requires : goal.row_place-found-requires
row_place-found-requires c = row_shown _ _ _ (sym c.in_default.ensures)

pub returns : goal.returns
returns c =
    let a = c.args in
    rw c.row_as-2.ensures (row_shows a.file.now a.channel a.year c.row_place-found.result (sym c.in_default.ensures) c.row_place-found.ensures)
