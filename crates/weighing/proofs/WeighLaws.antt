-- The machine's outcome of residues, case by case: what the call shows of its answer. Each carries, of an open file, that what is written
-- are the residues by the matrix.
use Rattle.std.specs.Prelude.{ℕ, ◌≤◌, ◌<◌, ◌≡◌, List, ◌++◌, leb, ℤ, pos, length, Result, Ok, Err}
use Rattle.std.proofs.Math.Path.{refl, sym, ap₂}
use Rattle.std.proofs.Common.{ap, ◌∙◌, zero-add}
use borrow.Author.Tests.{le-leb, lt-leb}
use Rattle.std.proofs.Math.ListN.{drop}
use Rattle.definitions.specs.Words.{part}
use Rattle.definitions.specs.Layout.{Bytes, last_year, closeness, parts, number_bytes, mean_of}
use Rattle.definitions.specs.Refusals.{Check, clear, refuses, unless, ◌then◌, record_check}
use Rattle.definitions.specs.Observations.{Chain}
use Rattle.definitions.specs.Matrix.{residue, figures_from}
use Rattle.definitions.specs.Residues.{observed_times, observed_residues, residues_length, residue_bytes, residue_at}
use Rattle.definitions.specs.Strikes.{StruckFile, Admitted, chain_left, figures_left}
use Rattle.definitions.specs.Machine.{written, holds, Outcome, writes_unless, residues_call}
use Rattle.definitions.specs.Kept.{kept_of, chain_kept}
use Rattle.laws.specs.Filled.{Filled}
use Rattle.laws.specs.MachineLaws.{map_outcome}
use Rattle.laws.proofs.MachineLaws.{residues_alike}
use Rattle.laws.proofs.Marks.{chain_kept_lem}
use Rattle.laws.proofs.NumberBytes.{number_bytes_cong}
use Rattle.laws.proofs.ObservedResidues.{residues_long, residues_read, observed_same}
use Rattle.laws.proofs.SameChains.{same_self}
use Rattle.laws.proofs.StruckFiles.{struck_chain}
use Rattle.laws.proofs.Tables.{tab_at}
use Rattle.layout.specs.declared.refusals.Reason.TheVariants.{Buffer, NothingOpen}
use Rattle.layout.specs.declared.refusals.Refusal.{Refusal}
use Rattle.layout.specs.Refusals.{number_of}
use Rattle.layout.specs.CheckLaws.{then_clear}
use Rattle.observations.specs.declared.Observations.{Observations}
use Rattle.records.proofs.MeanOfRecord.{part_small}
use Rattle.chain.specs.Arrays.{figures_of}
use Rattle.differences.specs.Differences.{left_in}
use Rattle.holding.specs.State.{Held, Fits, session_state}
use Rattle.holding.proofs.StateLaws.{state_of_held, state_of_empty}
use Rattle.writing.specs.Writes.{of_write}
use Rattle.writing.proofs.WriteLaws.{refused_written, wrote}
use Rattle.weighing.specs.Weighs.{weighs_to, Weighs}

-- of a file, with the steps that are struck: written only where the record is not refused, and then in front of the buffer
module _ (f : StruckFile) (file : Admitted f) (μ : List ℤ) (total : ℕ) (r before : Bytes) where
  abbrev J : ℕ
  J = last_year f.file

  abbrev u : ℕ → ℤ
  u = part (mean_of J r)

  abbrev asked : Check
  asked = record_check J r then unless (leb (residues_length J) (length before)) 13 0

  abbrev outcome_by : Check → Outcome StruckFile
  outcome_by k = writes_unless k (holds f μ total) (residue_bytes (chain_left f) u) before

  written_are : (residues_call chain_left (holds f μ total) r before).answer ≡ written → (k : ℕ) → k < parts J
      → residue_at (residues_call chain_left (holds f μ total) r before).buffer k ≡ residue (figures_left f) u k
  unfolding residues_call
  written_are = by_check asked refl
    where
      by_check : (c : Check) → asked ≡ c → (outcome_by c).answer ≡ written → (k : ℕ) → k < parts J
          → residue_at (outcome_by c).buffer k ≡ residue (figures_left f) u k
      by_check clear e told k below =
          let taken = (then_clear (record_check J r) (unless (leb (residues_length J) (length before)) 13 0) e).0 in
          residues_read (chain_left f) u (struck_chain f file).0 (part_small J r taken) _ (closeness f.file) k below
      by_check (refuses number place) e told k below = absurd (refused_written told)

years_kept : (f : StruckFile) → (chain_kept (kept_of f)).last ≡ (chain_left f).last
unfolding figures_from
years_kept f = refl

module _ (o : Observations) (s : Held) (r before : Bytes) where
  weighs_as : (a : Result Unit Refusal) (after : Bytes) → of_write a ≡ (weighs_to (session_state o s) r before).answer
      → after ≡ (weighs_to (session_state o s) r before).buffer → Weighs o s r before a after
  weighs_as a after answer buffer = record {
    answer = answer;
    buffer = buffer;
    of_file = λ f μ total file kept told k below.
        let as_file : weighs_to (session_state o s) r before ≡ map_outcome kept_of (residues_call chain_left (holds f μ total) r before) =
        ap (λ st. weighs_to st r before) kept
        ∙ residues_alike kept_of chain_left chain_kept years_kept chain_kept_lem (holds f μ total) r before in
        ap (λ b. residue_at b k) (buffer ∙ ap (λ x. x.buffer) as_file)
        ∙ written_are f file μ total r before (sym (ap (λ x. x.answer) as_file) ∙ sym answer ∙ wrote a told) k below;
  }

  pub weighs_closed : ¬ Fits s → Weighs o s r before (Err (record { reason = NothingOpen; place = 0 })) before
  unfolding residues_call
  weighs_closed h = let e = state_of_empty s h in weighs_as _ before (rw e refl) (rw e refl)

  module _ (h : Fits s) where
    pub weighs_refused : (refusal : Refusal) → record_check s.figures.last r ≡ refuses (number_of refusal.reason) refusal.place
        → Weighs o s r before (Err refusal) before
    unfolding residues_call figures_of
    weighs_refused refusal c = let e = state_of_held s h in weighs_as _ before (rw (e, c) refl) (rw (e, c) refl)

    module _ (taken : record_check s.figures.last r ≡ clear) where
      pub weighs_short : length before < residues_length s.figures.last → Weighs o s r before (Err (record { reason = Buffer; place = 0 })) before
      unfolding residues_call figures_of
      weighs_short short =
          let e = state_of_held s h in
          let l = lt-leb _ _ short in
          weighs_as _ before (rw (e, taken, l) refl) (rw (e, taken, l) refl)

      abbrev N : ℕ
      N = s.figures.last

      abbrev kept_chain : Chain
      kept_chain = left_in N o

      abbrev mean : ℕ → ℤ
      mean = part (mean_of N r)

      -- v has the residues of a mean m that has the record's parts
      text_is : (m v : List ℤ) → ((k : ℕ) → part m k ≡ mean k) → Filled 31 (parts N) (pos 0) (observed_times kept_chain 1 (part m)) v
          → number_bytes 8 0 (parts N) v ≡ residue_bytes kept_chain mean
      unfolding residue_bytes
      text_is m v same filled = number_bytes_cong 8 v (observed_residues kept_chain mean) 0 (parts N) (λ k below. rw (zero-add k)
          (filled.front k below
          ∙ observed_same kept_chain kept_chain (same_self kept_chain) 1 (part m) mean (λ l _. same l) k below
          ∙ sym (tab_at (parts N) (observed_times kept_chain 1 mean) k (pos 0) below)))

      pub weighs_written : residues_length s.figures.last ≤ length before → (m v : List ℤ) (after : Bytes)
          → ((k : ℕ) → part m k ≡ part (mean_of s.figures.last r) k)
          → Filled 31 (parts s.figures.last) (pos 0) (observed_times (left_in s.figures.last o) 1 (part m)) v
          → after ≡ number_bytes 8 0 (parts s.figures.last) v ++ drop (residues_length s.figures.last) before
          → Weighs o s r before (Ok tt) after
      unfolding residues_call figures_of
      weighs_written long m v after same filled is =
          let e = state_of_held s h in
          let l = le-leb _ _ long in
          let front = ap₂ (λ text n. text ++ drop n before) (text_is m v same filled) (sym (residues_long kept_chain mean)) in
          weighs_as (Ok tt) after (rw (e, taken, l) refl) (is ∙ front ∙ sym (rw (e, taken, l) refl))
