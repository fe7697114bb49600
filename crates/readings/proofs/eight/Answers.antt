-- The reading of a field inside the file does not end.
use Rattle.std.proofs.Common.{arith}
use Rattle.fields.specs.Fields.{field_read, field_outside}
use Rattle.readings.proofs.eight.Goals as goal

pub returns-in_default : goal.returns-in_default
returns-in_default c =
    let a = c.args in
    absurd (omega (arith, field_outside 8 a.at a.s.now c.unsigned_8.ensures c.in_default.is))

pub returns : goal.returns
returns c =
    let a = c.args in
    field_read 8 a.at a.s.now c.unsigned_8.ensures c.in-Some.is
