-- The tests are those of the definition, and the length word ends inside the string.
use Rattle.std.proofs.Common.{length, sym, ◌∙◌, arith, leb, eqb, refl}
use borrow.Author.Tests.{le-leb, lt-leb, eq-eqb, ne_eqb}
use Rattle.definitions.specs.Layout.{length_word}
use Rattle.fields.specs.Fields.{field_read, field_outside}
use Rattle.layout.specs.CheckLaws.{unless_holds, unless_fails, and_left, and_right}
use Rattle.layout.proofs.checks.check_length.Goals as goal

pub returns-then-s-least : goal.returns-then-s-least
returns-then-s-least c =
    let a = c.args in
    let s = a.s.now in
    rw c.at.ensures (unless_fails 1 0 (and_left (eqb (length_word s) (length s)) (lt-leb a.least (length s) c.if-s-least.true)))

pub returns-in_default : goal.returns-in_default
returns-in_default c = absurd (omega (arith, field_outside 4 0 c.args.s.now c.unsigned_4.ensures c.in_default.is))

pub returns-then-word-s : goal.returns-then-word-s
returns-then-word-s c =
    let a = c.args in
    let s = a.s.now in
    let e = field_read 4 0 s c.unsigned_4.ensures c.in-Some.is in
    rw c.at-then-word-s.ensures
    (unless_fails 1 0 (and_right (leb a.least (length s)) (ne_eqb (length_word s) (length s) (λ h. c.if-word-s.true (e ∙ h)))))

pub returns : goal.returns
returns c =
    let a = c.args in
    let s = a.s.now in
    let e = field_read 4 0 s c.unsigned_4.ensures c.in-Some.is in
    unless_holds 1 0 (rw (le-leb a.least (length s) c.if-s-least.false, eq-eqb (length_word s) (length s) (sym e ∙ c.if-word-s.false)) refl)
