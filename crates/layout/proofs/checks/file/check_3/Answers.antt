-- `layout::checks::file::check_3` meets its contract: the tests of J are the definition's. Assumes nothing.
use Rattle.definitions.specs.Refusals.{check3}
use Rattle.layout.specs.CheckLaws.{unless_holds, unless_fails, within_yes, within_low, within_high}
use Rattle.layout.proofs.checks.file.check_3.Goals as goal

pub returns-then-last-lt1 : goal.returns-then-last-lt1
unfolding check3
returns-then-last-lt1 c = rw c.at.ensures (unless_fails 3 5 (within_low 15 c.last_year-last.ensures c.if-last-lt1.true))

pub returns-then-last-gt15 : goal.returns-then-last-gt15
unfolding check3
returns-then-last-gt15 c = rw c.at-then-last-gt15.ensures (unless_fails 3 5 (within_high 1 c.last_year-last.ensures c.if-last-gt15.true))

pub returns : goal.returns
unfolding check3
returns c =
    unless_holds 3 5 (within_yes c.last_year-last.ensures c.if-last-lt1.false c.if-last-gt15.false)
