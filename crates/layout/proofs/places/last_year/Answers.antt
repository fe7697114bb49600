-- `layout::places::last_year` meets its contract: the field of one byte, and 0 where the string ends before it.
use mathlib.Core.Path.{sym}
use Rattle.fields.specs.Fields.{byte_read, byte_outside}
use Rattle.fields.proofs.Bytes.{unsigned_past}
use Rattle.layout.proofs.places.last_year.Goals as goal

pub returns-in_default : goal.returns-in_default
returns-in_default c =
    let s = c.args.s.now in
    sym (unsigned_past 1 5 s (byte_outside 5 s c.unsigned_1.ensures c.in_default.is))

pub returns : goal.returns
returns c = byte_read 5 c.args.s.now c.unsigned_1.ensures c.in-Some.is
