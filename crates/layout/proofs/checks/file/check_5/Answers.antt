-- `layout::checks::file::check_5` meets its contract: the closeness is there, and the tests are the definition's. Assumes nothing.
use native.Mathlib.Omega.{arith}
use Rattle.definitions.specs.Refusals.{check5}
use Rattle.fields.specs.Fields.{field_read, field_outside}
use Rattle.layout.specs.CheckLaws.{unless_holds, unless_fails, within_yes, within_low, within_high}
use Rattle.layout.proofs.checks.file.check_5.Goals as goal

pub returns-in_default : goal.returns-in_default
returns-in_default c =
    let s = c.args.s.now in
    absurd (omega (arith, field_outside 4 6 s c.unsigned_4.ensures c.in_default.is))

pub returns-then-closeness-lt1 : goal.returns-then-closeness-lt1
unfolding check5
returns-then-closeness-lt1 c =
    let s = c.args.s.now in
    let e = field_read 4 6 s c.unsigned_4.ensures c.in-Some.is in
    rw c.at-then-closeness-lt1.ensures (unless_fails 5 6 (within_low 65536 e c.if-closeness-lt1.true))

pub returns-then-closeness-gt65536 : goal.returns-then-closeness-gt65536
unfolding check5
returns-then-closeness-gt65536 c =
    let s = c.args.s.now in
    let e = field_read 4 6 s c.unsigned_4.ensures c.in-Some.is in
    rw c.at-then-closeness-gt65536.ensures (unless_fails 5 6 (within_high 1 e c.if-closeness-gt65536.true))

pub returns : goal.returns
unfolding check5
returns c =
    let s = c.args.s.now in
    let e = field_read 4 6 s c.unsigned_4.ensures c.in-Some.is in
    unless_holds 5 6 (within_yes e c.if-closeness-lt1.false c.if-closeness-gt65536.false)
