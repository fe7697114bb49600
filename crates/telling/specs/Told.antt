-- What C is told of an answer of the machine, in numbers; whatever an answer does not have is 0.
use Rattle.std.specs.Prelude.{ℕ, pos, replicate, Result, Ok, Err}
use Rattle.definitions.specs.Layout.{row_at, row_length}
use Rattle.definitions.specs.Refusals.{Check, clear, refuses}
use Rattle.definitions.specs.Matrix.{passed, fails}
use Rattle.definitions.specs.Ultimate.{Ultimate}
use Rattle.definitions.specs.Machine.{Answer, refused, opened, judged, settled, going, written, ultimate_is, struck_out, part_shown, row_is_shown, closed}
use Rattle.layout.specs.declared.refusals.Refusal.{Refusal as Refused}
use Rattle.layout.specs.Refusals.{number_of}
use Rattle.chain.specs.declared.arrays.Figures.{Figures}
use Rattle.telling.specs.declared.Refusal.{Refusal}
use Rattle.telling.specs.declared.Judged.{Judged}
use Rattle.telling.specs.declared.Swept.{Swept}
use Rattle.telling.specs.declared.RowShown.{RowShown}
use Rattle.telling.specs.declared.Projected.{Projected}
use Rattle.telling.specs.declared.System.{System}

abbrev pub none : Refusal
none = record { number = 0; place = 0 }

-- ---- a refusal, of any number and place

-- of one of the specification's reasons
abbrev pub of_reason : Refused → Refusal
of_reason r = record { number = number_of r.reason; place = r.place }

-- an answer of the machine, with whatever refusals, by how they are told
abbrev pub answered : {X E : Type 0} → (E → Refusal) → (Result X Refused → Answer) → Result X E → Answer
answered told of (Ok x) = of (Ok x)
answered told of (Err e) = refused (told e).number (told e).place

-- what is shown, or its refusal as it is told
abbrev pub shown_or_told : {X E : Type 0} → (E → Refusal) → Result X E → Result X Refusal
shown_or_told told (Ok x) = Ok x
shown_or_told told (Err e) = Err (told e)

-- ---- the numbers of an answer

-- Number and place of a refusal; 1 where the mean passes; a count: the first part that fails, or the sweeps run since open or the last
-- strike; and a figure.
pub record Numbers : Type 0 where
  pub number : ℕ
  pub place : ℕ
  pub passing : ℕ
  pub count : ℕ
  pub figure : Ultimate

abbrev no_figure : Ultimate
no_figure = record { floor = pos 0; remainder = 0; divisor = 0 }

abbrev numbers : ℕ → ℕ → ℕ → ℕ → Numbers
numbers number place passing count = record { number = number; place = place; passing = passing; count = count; figure = no_figure }

abbrev pub told : Answer → Numbers
told (refused number place) = numbers number place 0 0
told opened = numbers 0 0 0 0
told (judged passed) = numbers 0 0 1 0
told (judged (fails k)) = numbers 0 0 0 k
told (settled total) = numbers 0 0 1 total
told (going total) = numbers 0 0 0 total
told written = numbers 0 0 0 0
told (ultimate_is r) = record { number = 0; place = 0; passing = 0; count = 0; figure = r }
told struck_out = numbers 0 0 0 0
told (part_shown bytes) = numbers 0 0 0 0
told row_is_shown = numbers 0 0 0 0
told closed = numbers 0 0 0 0

-- ---- the structs of C

abbrev pub refusal_told : Answer → Refusal
refusal_told a = record { number = (told a).number; place = (told a).place }

abbrev pub judge_told : Answer → Judged
judge_told a = record { refusal = refusal_told a; passed = (told a).passing; part = (told a).count }

abbrev pub sweep_told : Answer → Swept
sweep_told a = record { refusal = refusal_told a; settled = (told a).passing; total = (told a).count }

abbrev pub ultimate_told : Answer → Projected
ultimate_told a = record {
  refusal = refusal_told a;
  floor = (told a).figure.floor;
  remainder = (told a).figure.remainder;
  divisor = (told a).figure.divisor;
}

-- a row of a file with this J: where it stands, or why it is refused
abbrev pub told_of_row : ℕ → ℕ → ℕ → Check → RowShown
told_of_row J channel year clear = record { refusal = none; start = row_at J channel year; length = row_length J year }
told_of_row J channel year (refuses number place) = record { refusal = record { number = number; place = place }; start = 0; length = 0 }

-- the figures of a session, or why they are not shown
abbrev pub system_of : Refusal → Figures → System
system_of refusal F = record {
  refusal = refusal;
  last = F.last;
  closeness = F.closeness;
  own = F.own;
  matrix = F.matrix;
  right_hand = F.right_hand;
}

-- what stands for figures where none are shown
abbrev pub no_figures : Figures
no_figures = record {
  last = 0;
  closeness = 0;
  own = replicate 31 0;
  matrix = replicate 961 (pos 0);
  right_hand = replicate 31 (pos 0);
}

abbrev pub system_told : Result Figures Refusal → System
system_told (Ok F) = system_of none F
system_told (Err refusal) = system_of refusal no_figures
