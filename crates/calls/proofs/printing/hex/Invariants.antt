-- The front of the text is the digits of the bytes passed.
use Rattle.std.proofs.Common.{length, take, ◌≤◌, ◌≡◌, ◌*◌}
use Rattle.calls.specs.Hex.{hex_of}
use Rattle.calls.proofs.printing.hex.Given as goal

abbrev pub invariant-loop-byte : goal.invariant-loop-byte
invariant-loop-byte l =
    record { inside : l.end ≤ length l.text; pairs : l.end ≡ 2 * l.byte-index; digits : take l.end l.text ≡ hex_of (take l.byte-index l.bytes) }
