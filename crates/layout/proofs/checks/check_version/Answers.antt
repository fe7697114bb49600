-- Byte 4 is there, and the answer is the test of it.
use Rattle.std.proofs.Common.{sym, ◌∙◌, arith}
use borrow.Author.Tests.{eq-eqb, ne_eqb}
use Rattle.definitions.specs.Layout.{version}
use Rattle.definitions.specs.Refusals.{check2}
use Rattle.fields.specs.Fields.{byte_read, byte_outside}
use Rattle.layout.specs.CheckLaws.{unless_holds, unless_fails}
use Rattle.layout.proofs.checks.check_version.Goals as goal

pub returns-in_default : goal.returns-in_default
returns-in_default c = absurd (omega (arith, byte_outside 4 c.args.s.now c.unsigned_1.ensures c.in_default.is))

pub returns-then-version-ne1 : goal.returns-then-version-ne1
unfolding check2
returns-then-version-ne1 c =
    let s = c.args.s.now in
    let e = byte_read 4 s c.unsigned_1.ensures c.in-Some.is in
    rw c.at-then-version-ne1.ensures (unless_fails 2 4 (ne_eqb (version s) 1 (λ h. c.if-version-ne1.true (e ∙ h))))

pub returns : goal.returns
unfolding check2
returns c =
    let s = c.args.s.now in
    let e = byte_read 4 s c.unsigned_1.ensures c.in-Some.is in
    unless_holds 2 4 (eq-eqb (version s) 1 (sym e ∙ c.if-version-ne1.false))
