-- `layout::checks::file::check_4` meets its contract: the length is compared with that of J. Assumes nothing.
use borrow.Author.Tests.{eq-eqb, ne_eqb}
use mathlib.Core.Path.{sym, ap, ◌∙◌}
use lib.ListN.{length}
use Rattle.definitions.specs.Layout.{last_year, file_length}
use Rattle.definitions.specs.Refusals.{check4}
use Rattle.layout.specs.CheckLaws.{unless_holds, unless_fails}
use Rattle.layout.proofs.checks.file.check_4.Goals as goal

pub returns-then-s-file_length : goal.returns-then-s-file_length
unfolding check4
returns-then-s-file_length c =
    let s = c.args.s.now in
    let e = c.file_length.ensures ∙ ap file_length c.last_year.ensures in
    rw c.at.ensures (unless_fails 4 0 (ne_eqb (length s) (file_length (last_year s)) (λ h. c.if-s-file_length.true (h ∙ sym e))))

pub returns : goal.returns
unfolding check4
returns c =
    let s = c.args.s.now in
    let e = c.file_length.ensures ∙ ap file_length c.last_year.ensures in
    unless_holds 4 0 (eq-eqb (length s) (file_length (last_year s)) (c.if-s-file_length.false ∙ e))
