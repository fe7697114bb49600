-- What C's callers can count on of residues, in plain numbers, drawn from the contract of the call alone: of any session, and of one that
-- keeps a file.
use Rattle.std.specs.Prelude.{ℕ, ◌+◌, ◌*◌, ◌≤◌, ◌<◌, ◌≡◌, ◌≢◌, true, false, List, ◌++◌, ℤ, ◌-ℤ◌, ◌*ℤ◌, length}
use Rattle.std.proofs.Math.Path.{refl, ap}
use Rattle.std.proofs.Common.{sym, ◌∙◌}
use borrow.Author.Tests.{le-leb, lt-leb}
use Rattle.std.proofs.Math.ListN.{drop}
use Rattle.integers.specs.Sum.{sum}
use Rattle.definitions.specs.Words.{part}
use Rattle.definitions.specs.Layout.{Bytes, last_year, closeness, mean_of}
use Rattle.definitions.specs.Refusals.{clear, refuses, accepted, record_check}
use Rattle.definitions.specs.Matrix.{matrix, right_hand_side}
use Rattle.definitions.specs.Residues.{residue_bytes, residue_at}
use Rattle.definitions.specs.Strikes.{step, StruckFile, is_struck, Admitted, chain_left}
use Rattle.definitions.specs.Machine.{refused, empty, holds, residues_call}
use Rattle.definitions.specs.Kept.{Kept, kept_of, chain_kept}
use Rattle.laws.proofs.ObservedResidues.{residues_long, observed_is_residue}
use Rattle.laws.proofs.PinnedResidues.{residue_by_matrix}
use Rattle.laws.proofs.StruckSteps.{each_left}
use Rattle.observations.specs.declared.Observations.{Observations}
use Rattle.holding.specs.State.{Held, session_state}
use Rattle.weighing.specs.Weighs.{weighs_to}
use Rattle.telling.specs.declared.Refusal.{Refusal}
use Rattle.telling.specs.Told.{refusal_told}
use Rattle.desk.specs.Calls.{Weighs}
use Rattle.desk.specs.PinnedResidues.{refusal}

module _ (o : Observations) (s : Held) (lent before after : Bytes) (r : Refusal) (call : Weighs o s lent before r after) where
  pub residues_told : (r ≡ refusal_told (weighs_to (session_state o s) lent before).answer)
      × (after ≡ (weighs_to (session_state o s) lent before).buffer)
  residues_told = (call.told, call.buffer)

  pub residues_numbered : (place : ℕ) → (weighs_to (session_state o s) lent before).answer ≢ refused 0 place
  residues_numbered = call.numbered

  -- 21, then the record's refusals, then 13: the buffer is as it was
  pub residues_closed : session_state o s ≡ empty → (r ≡ refusal 21 0) × (after ≡ before)
  unfolding residues_call
  residues_closed closed = (call.told ∙ rw closed refl, call.buffer ∙ rw closed refl)

  module _ (x : Kept) (μ : List ℤ) (count : ℕ) (some : session_state o s ≡ holds x μ count) where
    pub residues_refused : (number place : ℕ) → record_check x.figures.last lent ≡ refuses number place
        → (r ≡ refusal number place) × (after ≡ before)
    unfolding residues_call
    residues_refused number place bad = (call.told ∙ rw (some, bad) refl, call.buffer ∙ rw (some, bad) refl)

    pub residues_short : record_check x.figures.last lent ≡ clear → length before < 8 * (2 * x.figures.last + 1)
        → (r ≡ refusal 13 0) × (after ≡ before)
    unfolding residues_call
    residues_short good short =
        let l = lt-leb (8 * (2 * x.figures.last + 1)) (length before) short in
        (call.told ∙ rw (some, good, l) refl, call.buffer ∙ rw (some, good, l) refl)

    -- of the record's mean, and the bytes behind them are as they were
    pub residues_written : record_check x.figures.last lent ≡ clear → 8 * (2 * x.figures.last + 1) ≤ length before
        → (r ≡ refusal 0 0)
        × (after ≡ residue_bytes (chain_kept x) (part (mean_of x.figures.last lent)) ++ drop (8 * (2 * x.figures.last + 1)) before)
    unfolding residues_call
    residues_written good long =
        let l = le-leb (8 * (2 * x.figures.last + 1)) (length before) long in
        let text : Bytes = residue_bytes (chain_kept x) (part (mean_of x.figures.last lent)) in (
          call.told ∙ rw (some, good, l) refl,
          call.buffer ∙ rw (some, good, l) refl
              ∙ ap (λ n. text ++ drop n before) (residues_long (chain_kept x) (part (mean_of x.figures.last lent))),
        )

  -- of an accepted file, of which each column has a step that is not struck: A·mean − b, of the loss without the struck terms
  pub residues_of_file : (f : StruckFile) (μ : List ℤ) (count : ℕ) → accepted f.file ≡ true
      → ((j : ℕ) → j ≤ last_year f.file → (i : ℕ) × (i + j ≤ last_year f.file) × (is_struck f (step 0 i j) ≡ false))
      → ((j : ℕ) → j < last_year f.file → (i : ℕ) × (i + j < last_year f.file) × (is_struck f (step 1 i j) ≡ false))
      → session_state o s ≡ holds (kept_of f) μ count → r.number ≡ 0 → (k : ℕ) → k < 2 * last_year f.file + 1
      → residue_at after k
      ≡ sum (2 * last_year f.file + 1) (λ l. matrix (chain_left f) k l *ℤ part (mean_of (last_year f.file) lent) l)
      -ℤ right_hand_side (chain_left f) k
  residues_of_file f μ count taken xs zs kept done k below =
      let u : ℕ → ℤ = part (mean_of (last_year f.file) lent) in
      let file : Admitted f = record { taken = taken; left = each_left (last_year f.file) (is_struck f) xs zs } in
      call.of_file f μ count file kept done k below
      ∙ sym (observed_is_residue (chain_left f) u (closeness f.file) k below)
      ∙ residue_by_matrix f u k below
