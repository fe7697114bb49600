-- The reading does not end.
use Rattle.std.proofs.Common.{arith}
use Rattle.fields.specs.Fields.{field_read, field_outside}
use Rattle.readings.proofs.closeness_of.Goals as goal

pub returns-in_default : goal.returns-in_default
returns-in_default c =
    absurd (omega (arith, c.requires.whole, field_outside 4 6 c.args.s.now c.unsigned_4.ensures c.in_default.is))

pub returns : goal.returns
returns c = field_read 4 6 c.args.s.now c.unsigned_4.ensures c.in-Some.is
