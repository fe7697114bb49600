-- The number of a refusal is one of the specification's table: 0 is free to say that there is none, and 16 is not used. `Pinned` has it
-- of every call.
use Rattle.std.specs.Prelude.{ℕ, ◌||◌, T}
use Rattle.std.proofs.Math.Bool.{Bool}
use Rattle.definitions.specs.Words.{within}
use Rattle.definitions.specs.Refusals.{Check, clear, refuses, ◌then◌}
use Rattle.definitions.specs.Machine.{Answer, refused, opened, judged, settled, going, written, ultimate_is, struck_out, part_shown}
use Rattle.definitions.specs.Machine.{row_is_shown, closed}

-- the numbers of the input, and those of the state
abbrev pub in_table : ℕ → Bool
in_table n = within 1 15 n || within 21 27 n

abbrev pub number_or_one : Check → ℕ
number_or_one clear = 1
number_or_one (refuses number place) = number

pub record Numbered (c : Check) : Type 0 where
  pub listed : T (in_table (number_or_one c))

infixr 30 ◌and_then◌
pub ◌and_then◌ : {a b : Check} → Numbered a → Numbered b → Numbered (a then b)
◌and_then◌ {a = clear} first second = second
◌and_then◌ {a = refuses number place} first second = first

abbrev pub NumberedAnswer : Answer → Type 0
NumberedAnswer (refused number place) = T (in_table number)
NumberedAnswer opened = Unit {0}
NumberedAnswer (judged j) = Unit {0}
NumberedAnswer (settled total) = Unit {0}
NumberedAnswer (going total) = Unit {0}
NumberedAnswer written = Unit {0}
NumberedAnswer (ultimate_is r) = Unit {0}
NumberedAnswer struck_out = Unit {0}
NumberedAnswer (part_shown b) = Unit {0}
NumberedAnswer row_is_shown = Unit {0}
NumberedAnswer closed = Unit {0}
