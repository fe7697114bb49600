-- What the two programs print, for every input: by the answer of the last call that is made, and never more than 4,096 bytes.
use Rattle.std.specs.Prelude.{ℕ, ◌≤◌, ◌<◌, ◌≡◌, true, List, ℤ, nat_abs}
use Rattle.definitions.specs.Words.{part}
use Rattle.definitions.specs.Layout.{Bytes, last_year, parts}
use Rattle.definitions.specs.Refusals.{part_limit, accepted}
use Rattle.definitions.specs.Matrix.{Figures, figures_of, passes}
use Rattle.definitions.specs.Machine.{Answer, refused, opened, judged, settled, going, written, ultimate_is, struck_out, part_shown, row_is_shown, closed}
use Rattle.definitions.specs.Machine.{State, holds}
use Rattle.definitions.specs.Programs.{refusal_line, spent_line, Show, program_text}

-- The bytes given are an accepted file whose mean settled, and that mean is what is shown.
pub record MeanSettled (given : Bytes) (st : State Figures) (total : ℕ) : Type 0 where
  pub mean : List ℤ
  pub file : accepted given ≡ true
  pub state : st ≡ holds (figures_of given) mean total
  pub passing : passes (figures_of given) (part mean) ≡ true
  pub inside : (k : ℕ) → k < parts (last_year given) → nat_abs (part mean k) ≤ part_limit
  pub text : (show : Show) → program_text show given ≡ show (figures_of given) mean total

-- What is printed, whatever is shown of a mean, where the last call gave this answer and left this state. Only open and sweep are called.
abbrev pub Ends : Bytes → State Figures → Answer → Type 0
Ends given st (refused number place) = (show : Show) → program_text show given ≡ refusal_line number place
Ends given st (going total) = (show : Show) → program_text show given ≡ spent_line total
Ends given st (settled total) = MeanSettled given st total
Ends given st opened = ⊥
Ends given st (judged verdict) = ⊥
Ends given st written = ⊥
Ends given st (ultimate_is r) = ⊥
Ends given st struck_out = ⊥
Ends given st (part_shown bytes) = ⊥
Ends given st row_is_shown = ⊥
Ends given st closed = ⊥
