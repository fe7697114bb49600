-- What callers can count on, in plain numbers, drawn from the contract of residues alone: a call that is refused leaves the buffer as it
-- was, and of an open file what is written are the residues that the matrix gives.
use Rattle.std.specs.Prelude.{ℕ, ◌+◌, ◌*◌, ◌<◌, ◌≡◌, refl, List, leb, ℤ, length, Ok, Err}
use Rattle.std.proofs.Common.{sym, ◌∙◌}
use Rattle.definitions.specs.Words.{part}
use Rattle.definitions.specs.Layout.{Bytes, last_year, mean_of}
use Rattle.definitions.specs.Refusals.{Check, clear, refuses, unless, ◌then◌, record_check}
use Rattle.definitions.specs.Matrix.{residue}
use Rattle.definitions.specs.Residues.{residues_length, residue_at}
use Rattle.definitions.specs.Strikes.{StruckFile, Admitted, figures_left}
use Rattle.definitions.specs.Machine.{refused, State, empty, holds, writes_unless, residues_call}
use Rattle.definitions.specs.Kept.{Kept, kept_of, chain_kept}
use Rattle.layout.specs.declared.refusals.Refusal.{Refusal}
use Rattle.layout.specs.Refusals.{number_of}
use Rattle.observations.specs.declared.Observations.{Observations}
use Rattle.holding.specs.State.{Held, session_state}
use Rattle.writing.proofs.WriteLaws.{refused_written}
use Rattle.weighing.specs.Weighs.{weighs_to, Weighs}

-- a state that answers a refusal has left the buffer
refused_leaves : (st : State Kept) (r b : Bytes) (number place : ℕ) → (weighs_to st r b).answer ≡ refused number place
    → (weighs_to st r b).buffer ≡ b
unfolding residues_call
refused_leaves empty r b number place e = refl
refused_leaves (holds x μ count) r b number place e =
    by_check (record_check (chain_kept x).last r then unless (leb (residues_length (chain_kept x).last) (length b)) 13 0) _ e
  where
    by_check : (c : Check) (text : Bytes) → (writes_unless c (holds x μ count) text b).answer ≡ refused number place
        → (writes_unless c (holds x μ count) text b).buffer ≡ b
    by_check clear text told = absurd (refused_written (sym told))
    by_check (refuses n p) text told = refl

module _ (o : Observations) (s : Held) (r before after : Bytes) where
  pub residues_refused : (refusal : Refusal) → Weighs o s r before (Err refusal) after → after ≡ before
  residues_refused refusal call =
      call.buffer ∙ refused_leaves (session_state o s) r before (number_of refusal.reason) refusal.place (sym call.answer)

  pub residues_written : (f : StruckFile) (μ : List ℤ) (count : ℕ) → Admitted f → session_state o s ≡ holds (kept_of f) μ count
      → Weighs o s r before (Ok tt) after → (k : ℕ) → k < 2 * last_year f.file + 1
      → residue_at after k ≡ residue (figures_left f) (part (mean_of (last_year f.file) r)) k
  residues_written f μ count file kept call = call.of_file f μ count file kept refl
