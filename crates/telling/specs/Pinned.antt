-- What C is told, case by case and of every number, as include/desk.h has it.
use Rattle.std.specs.Prelude.{ℕ, ◌≡◌, List, ℤ, pos, replicate, Ok, Err}
use Rattle.definitions.specs.Layout.{row_at, row_length}
use Rattle.definitions.specs.Refusals.{clear, refuses}
use Rattle.definitions.specs.Matrix.{passed, fails}
use Rattle.definitions.specs.Machine.{refused, opened, judged, settled, going, written, ultimate_is, struck_out}
use Rattle.chain.specs.Arrays.{figures_at}
use Rattle.telling.specs.declared.Refusal.{Refusal}
use Rattle.telling.specs.Told.{refusal_told, judge_told, sweep_told, ultimate_told, told_of_row, system_told}

abbrev pub refusal : ℕ → ℕ → Refusal
refusal number place = record { number = number; place = place }

pub record Pinned : Type 0 where
  pub opened_file : refusal_told opened ≡ refusal 0 0
  pub refused_file : (number place : ℕ) → refusal_told (refused number place) ≡ refusal number place
  pub written_mean : refusal_told written ≡ refusal 0 0
  pub struck_step : refusal_told struck_out ≡ refusal 0 0
  pub passed_mean : judge_told (judged passed) ≡ record { refusal = refusal 0 0; passed = 1; part = 0 }
  pub failing_mean : (k : ℕ) → judge_told (judged (fails k)) ≡ record { refusal = refusal 0 0; passed = 0; part = k }
  pub refused_record : (number place : ℕ)
      → judge_told (refused number place) ≡ record { refusal = refusal number place; passed = 0; part = 0 }
  pub settled_mean : (n : ℕ) → sweep_told (settled n) ≡ record { refusal = refusal 0 0; settled = 1; total = n }
  pub going_mean : (n : ℕ) → sweep_told (going n) ≡ record { refusal = refusal 0 0; settled = 0; total = n }
  pub refused_sweeps : (number place : ℕ)
      → sweep_told (refused number place) ≡ record { refusal = refusal number place; settled = 0; total = 0 }
  pub central_ultimate : (floor : ℤ) (remainder divisor : ℕ)
      → ultimate_told (ultimate_is (record { floor = floor; remainder = remainder; divisor = divisor }))
      ≡ record { refusal = refusal 0 0; floor = floor; remainder = remainder; divisor = divisor }
  pub refused_ultimate : (number place : ℕ)
      → ultimate_told (refused number place) ≡ record { refusal = refusal number place; floor = pos 0; remainder = 0; divisor = 0 }
  pub shown_row : (J channel year : ℕ)
      → told_of_row J channel year clear ≡ record { refusal = refusal 0 0; start = row_at J channel year; length = row_length J year }
  -- File F's incurred amounts of year 0
  pub row_of_F : told_of_row 1 1 0 clear ≡ record { refusal = refusal 0 0; start = 94; length = 16 }
  pub refused_row : (J channel year number place : ℕ)
      → told_of_row J channel year (refuses number place) ≡ record { refusal = refusal number place; start = 0; length = 0 }
  pub shown_system : (J e : ℕ) (D : List ℕ) (A b : List ℤ)
      → system_told (Ok (figures_at J e D A b))
      ≡ record { refusal = refusal 0 0; last = J; closeness = e; own = D; matrix = A; right_hand = b }
  -- with zeros in place of the figures
  pub refused_system : (number place : ℕ) → system_told (Err (refusal number place))
      ≡ record {
        refusal = refusal number place;
        last = 0;
        closeness = 0;
        own = replicate 31 0;
        matrix = replicate 961 (pos 0);
        right_hand = replicate 31 (pos 0);
      }
