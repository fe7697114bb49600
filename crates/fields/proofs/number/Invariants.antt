-- The value is the field of the bytes passed.
use Rattle.std.proofs.Common.{◌≡◌}
use Rattle.definitions.specs.Layout.{unsigned}
use Rattle.fields.proofs.number.Given as goal

abbrev pub invariant-loop-byte : goal.invariant-loop-byte
invariant-loop-byte l = l.value ≡ unsigned l.byte-index 0 l.bytes
