-- The contract of residues: answer and buffer are the machine's. In plain words besides, of an open file: what is written are the residues
-- that the matrix gives and that judge tests.
use Rattle.std.specs.Prelude.{ℕ, ◌<◌, ◌≡◌, List, ℤ, Result, IsOk}
use Rattle.definitions.specs.Words.{part}
use Rattle.definitions.specs.Layout.{Bytes, last_year, parts, mean_of}
use Rattle.definitions.specs.Matrix.{residue}
use Rattle.definitions.specs.Residues.{residue_at}
use Rattle.definitions.specs.Strikes.{StruckFile, Admitted, figures_left}
use Rattle.definitions.specs.Machine.{State, holds, Outcome, residues_call}
use Rattle.definitions.specs.Kept.{Kept, kept_of, chain_kept}
use Rattle.layout.specs.declared.refusals.Refusal.{Refusal}
use Rattle.observations.specs.declared.Observations.{Observations}
use Rattle.observations.specs.Arrays.{observations_at}
use Rattle.holding.specs.State.{Held, session_state}
use Rattle.writing.specs.Writes.{of_write}

-- the machine on what a session keeps
abbrev pub weighs_to : State Kept → Bytes → Bytes → Outcome Kept
weighs_to = residues_call chain_kept

-- of the buffer before, and of the buffer after
pub record Weighs (o : Observations) (s : Held) (meanRecord before : Bytes) (r : Result Unit Refusal) (after : Bytes) : Type 0 where
  pub answer : of_write r ≡ (weighs_to (session_state o s) meanRecord before).answer
  pub buffer : after ≡ (weighs_to (session_state o s) meanRecord before).buffer
  pub of_file : (f : StruckFile) (μ : List ℤ) (count : ℕ) → Admitted f → session_state o s ≡ holds (kept_of f) μ count → IsOk r
      → (k : ℕ) → k < parts (last_year f.file)
      → residue_at after k ≡ residue (figures_left f) (part (mean_of (last_year f.file) meanRecord)) k

-- of lent arrays, whatever variances the session keeps beside them
abbrev pub WeighsLent : List ℤ → List ℕ → List ℕ → Held → Bytes → Bytes → Result Unit Refusal → Bytes → Type 0
WeighsLent ticks weights struck s meanRecord before r after =
    (variances : List ℕ) → Weighs (observations_at ticks weights variances struck) s meanRecord before r after
