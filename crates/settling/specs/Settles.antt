-- What `settle` tells of the bytes given.
use Rattle.std.specs.Prelude.{ℕ, ◌≤◌, ◌<◌, ◌≡◌, refl, Result, Ok, Err, IsOk, List, ◌++◌, ℤ, length, drop}
use Rattle.std.proofs.Common.{sym, ap, subst, ◌∙◌, le-ltb}
use Rattle.definitions.specs.Layout.{Bytes, last_year}
use Rattle.definitions.specs.Matrix.{figures_from, figures_of}
use Rattle.definitions.specs.Strikes.{StruckFile, figures_left}
use Rattle.definitions.specs.Programs.{Show, program_text, refusal_line, spent_line}
use Rattle.definitions.specs.Machine.{written, opened, open_file, State, empty, holds, map_state, open_call, sweep_call, write_call, outcome, the_file}
use Rattle.definitions.specs.Kept.{kept_of, in_session}
use Rattle.laws.specs.MachineLaws.{map_outcome}
use Rattle.laws.proofs.MachineLaws.{sweep_alike, outcome_alike, session_alike}
use Rattle.laws.specs.Printed.{MeanSettled, Ends}
use Rattle.laws.proofs.Printed.{opening, sweeping, swept_ends}
use Rattle.layout.specs.declared.refusals.Refusal.{Refusal}
use Rattle.layout.specs.Refusals.{number_of}
use Rattle.observations.specs.declared.Observations.{Observations}
use Rattle.holding.specs.State.{Held, state_of, session_state}
use Rattle.holding.proofs.StateLaws.{held_of_session}
use Rattle.sweeping.specs.declared.Progress.{Progress}
use Rattle.sweeping.specs.declared.Progress.TheVariants.{Settled, Going}
use Rattle.sweeping.specs.Sweeps.{of_sweep}
use Rattle.writing.specs.Writes.{of_write, Text, Writes}
use Rattle.writing.proofs.WriteLaws.{refused_written}
use Rattle.session.specs.declared.answers.Outcome.{Outcome}
use Rattle.session.specs.Value.{held_by}

-- ---- a session answers as the specification's machine does, on the file in the place of what is kept of it

module _ (given : Bytes) where
  pub opens_as_file : open_call in_session empty given ≡ map_outcome kept_of (opening given)
  unfolding outcome
  opens_as_file = outcome_alike the_file in_session kept_of session_alike empty (open_file given)

  pub swept_as_file : sweep_call (λ F. F) (map_state figures_left (opening given).state) 4096 ≡ map_outcome figures_left (sweeping given)
  swept_as_file = sweep_alike figures_left figures_left (λ F. F) (λ f. refl) (opening given).state 4096

-- what is held are the figures of what is kept
pub held_figures : (o : Observations) (s : Held) (st : State StruckFile) → session_state o s ≡ map_state kept_of st
    → state_of s ≡ map_state figures_left st
held_figures o s st e = sym (held_of_session o s) ∙ ap (map_state (λ x. x.figures)) e ∙ of_file st
  where
    of_file : (st : State StruckFile) → map_state (λ x. x.figures) (map_state kept_of st) ≡ map_state figures_left st
    of_file empty = refl
    of_file (holds f μ total) = refl

-- ---- by its answer: what is printed, whatever would be shown of a mean; or that the session holds the mean that is shown
pub record Settles (given : Bytes) (r : Outcome Progress) : Type 0 where
  pub refused : (e : Refusal) → r.answer ≡ Err e
      → (show : Show) → program_text show given ≡ refusal_line (number_of e.reason) e.place
  pub going : (total : ℕ) → r.answer ≡ Ok (Going total) → (show : Show) → program_text show given ≡ spent_line total
  pub settled : (total : ℕ) → r.answer ≡ Ok (Settled total) → MeanSettled given (state_of (held_by r.session)) total

module _ (given : Bytes) (r : Outcome Progress) where
  pub settles_by : Ends given (state_of (held_by r.session)) (of_sweep r.answer) → Settles given r
  settles_by e = record { refused = λ e same. told same; going = λ total same. told same; settled = λ total same. told same }
    where
      told : {a : Result Progress Refusal} → r.answer ≡ a → Ends given (state_of (held_by r.session)) (of_sweep a)
      told same = subst (λ a. Ends given (state_of (held_by r.session)) (of_sweep a)) same e

  pub settles_swept : length given < 2807 → opened ≡ (opening given).answer
      → of_sweep r.answer ≡ (sweeping given).answer → state_of (held_by r.session) ≡ map_state figures_left (sweeping given).state
      → Settles given r
  settles_swept short taken answer state = settles_by (rw (answer, state) (swept_ends given short taken))

-- ---- what is written of a mean that settled

-- the whole text, and no refusal
pub record WritesWhole (size : ℕ → ℕ) (text : Text) (given : Bytes) (μ : List ℤ) (before : Bytes) (r : Result Unit Refusal) (after : Bytes)
    : Type 0 where
  pub taken : IsOk r
  pub buffer : after ≡ text (figures_of given) μ ++ drop (size (last_year given)) before

taken_of : (r : Result Unit Refusal) → of_write r ≡ written → IsOk r
taken_of (Ok done) e = cc
taken_of (Err r) e = absurd (refused_written e)

-- it passes, so that only the room counts
pub writes_whole : {size : ℕ → ℕ} {text : Text} {given : Bytes} {s : Held} {total : ℕ} {before after : Bytes} {r : Result Unit Refusal}
    → (m : MeanSettled given (state_of s) total) → Writes size text s before r after → size (last_year given) ≤ length before
    → WritesWhole size text given m.mean before r after
unfolding write_call figures_from
writes_whole {r = r} m w room = let enough = le-ltb _ _ room in record {
  taken = taken_of r (w.answer ∙ rw (m.state, m.passing, enough) refl);
  buffer = w.buffer ∙ rw (m.state, m.passing, enough) refl;
}
