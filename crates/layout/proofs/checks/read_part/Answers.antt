-- The field ends inside the string; its size, as the code holds it, is that of the number that was read.
use Rattle.std.proofs.Common.{◌≡◌, ap, ◌∙◌, arith, nat_abs}
use Rattle.std.proofs.Math.Facts.{to_z-of_z}
use borrow.Author.Tests.{le-leb, lt-leb}
use mir.Syntax.{w64}
use mir.Val.{to_z, of_z}
use Rattle.definitions.specs.Layout.{signed}
use Rattle.definitions.specs.Refusals.{part_limit}
use Rattle.fields.specs.Fields.{signed_read, signed_outside}
use Rattle.layout.proofs.checks.read_part.Goals as goal
use Rattle.layout.proofs.checks.read_part.Goals.{In-Some}

held : (c : In-Some) → to_z w64 (of_z w64 c.in-Some.z) ≡ signed c.args.at c.args.s.now
held c =
    to_z-of_z {w = w64} {z = c.in-Some.z} (record { sfits = c.in-Some.known_told-1-own.given.0.1 })
    ∙ signed_read c.args.at c.args.s.now c.signed_4.ensures c.in-Some.is

pub returns-in_default : goal.returns-in_default
returns-in_default c =
    let a = c.args in
    absurd (omega (arith, signed_outside a.at a.s.now c.signed_4.ensures c.in_default.is))

pub returns-then-unsigned_abs-gt-MOST_PART : goal.returns-then-unsigned_abs-gt-MOST_PART
returns-then-unsigned_abs-gt-MOST_PART c =
    let size = c.unsigned_abs.ensures.value ∙ ap nat_abs (held (goal.at.returns-then-unsigned_abs-gt-MOST_PART c).In-Some) in
    (c.at-then-unsigned_abs-gt-MOST_PART.ensures, lt-leb _ part_limit (omega (arith, size, c.if-unsigned_abs-gt-MOST_PART.true)))

pub returns : goal.returns
returns c =
    let size = c.unsigned_abs.ensures.value ∙ ap nat_abs (held (goal.at.returns c).In-Some) in
    (held (goal.at.returns c).In-Some, le-leb _ part_limit (omega (arith, size, c.if-unsigned_abs-gt-MOST_PART.false)))
