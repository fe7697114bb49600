-- The machine's outcome of a judge, case by case: what the call shows of its answer. Each carries both halves of demand 3.
use Rattle.std.specs.Prelude.{ℕ, ◌≡◌, refl, true, List, ℤ, Result, Ok, Err}
use Rattle.std.proofs.Common.{sym, ◌∙◌, arith}
use Rattle.std.proofs.Math.Path.{ap}
use Rattle.std.proofs.lemmas.Bool.{false≢true}
use Rattle.definitions.specs.Words.{part}
use Rattle.definitions.specs.Layout.{Bytes, last_year, mean_of}
use Rattle.definitions.specs.Refusals.{Check, clear, refuses, record_check}
use Rattle.definitions.specs.Matrix as D
use Rattle.definitions.specs.Matrix.{Judgement, passed, fails, judgement, is_passed, passes}
use Rattle.definitions.specs.Strikes.{StruckFile, figures_left}
use Rattle.definitions.specs.Machine.{Answer, judged, refused, holds, refused_or, judge_call}
use Rattle.chain.specs.Arrays.{figures_of}
use Rattle.layout.specs.declared.refusals.Reason.TheVariants.{NothingOpen}
use Rattle.layout.specs.declared.refusals.Refusal.{Refusal}
use Rattle.layout.specs.Refusals.{number_of}
use Rattle.chain.specs.declared.judge.Judgement as C
use Rattle.chain.specs.declared.judge.Judgement.TheVariants.{Passed, Fails}
use Rattle.chain.specs.Verdict.{judgement_of}
use Rattle.holding.specs.State.{Held, Fits, state_of}
use Rattle.holding.proofs.StateLaws.{state_of_held, state_of_empty}
use Rattle.holding.proofs.Worth.{worth, rounded}
use Rattle.judging.specs.Judges.{of_judge, judges_to, Judges}

judged_refused : {j : Judgement} {number place : ℕ} → judged j ≡ refused number place → ⊥
judged_refused e = let z : ◌≡◌ {A = ℕ} 0 1 = cc in omega arith

judged_same : {j k : Judgement} → judged j ≡ judged k → j ≡ k
judged_same e = cc

fails_passed : {k : ℕ} → fails k ≡ passed → ⊥
fails_passed e = false≢true (ap is_passed e)

is_passed_lem : (j : Judgement) → is_passed j ≡ true → j ≡ passed
is_passed_lem passed e = refl
is_passed_lem (fails k) e = absurd (false≢true e)

of_passed : (a : Result C.Judgement Refusal) → of_judge a ≡ judged passed → a ≡ Ok Passed
of_passed (Ok Passed) e = refl
of_passed (Ok (Fails k)) e = absurd (fails_passed (judged_same e))
of_passed (Err r) e = absurd (judged_refused (sym e))

refused_or_lem : (c : Check) (a : Answer) (j : Judgement) → refused_or c a ≡ judged j → a ≡ judged j
refused_or_lem clear a j e = e
refused_or_lem (refuses number place) a j e = absurd (judged_refused (sym e))

-- a file that is open, and the mean of a record
module _ (f : StruckFile) (μ : List ℤ) (total : ℕ) (r : Bytes) where
  abbrev judged_to : Answer
  judged_to = judges_to (holds (figures_left f) μ total) r

  passed_passes : judged_to ≡ judged passed → passes (figures_left f) (part (mean_of (last_year f.file) r)) ≡ true
  unfolding judge_call D.figures_from
  passed_passes e = ap is_passed (judged_same (refused_or_lem (record_check (last_year f.file) r) _ passed e))

  passes_passed : record_check (last_year f.file) r ≡ clear → passes (figures_left f) (part (mean_of (last_year f.file) r)) ≡ true
      → judged_to ≡ judged passed
  unfolding judge_call D.figures_from
  passes_passed c e = rw c (ap judged (is_passed_lem _ e))

module _ (s : Held) (r : Bytes) where
  -- every answer that is the machine's carries both halves
  judges : (a : Result C.Judgement Refusal) → of_judge a ≡ judges_to (state_of s) r → Judges s r a
  judges a e = record {
    answer = e;
    worth = λ f μ total open-file passing.
        worth open-file (mean_of (last_year f.file) r)
        (passed_passes f μ total r (ap (λ x. judges_to x r) (sym open-file.state) ∙ sym e ∙ ap of_judge passing));
    rounded = λ f μ total open-file c near.
        of_passed a
        (e ∙ ap (λ x. judges_to x r) open-file.state
        ∙ passes_passed f μ total r c (rounded open-file (mean_of (last_year f.file) r) near));
  }

  pub judges_closed : ¬ Fits s → Judges s r (Err (record { reason = NothingOpen; place = 0 }))
  unfolding judge_call
  judges_closed h = judges _ (rw (state_of_empty s h) refl)

  module _ (h : Fits s) where
    pub judges_refused : (refusal : Refusal) → record_check s.figures.last r ≡ refuses (number_of refusal.reason) refusal.place
        → Judges s r (Err refusal)
    unfolding judge_call figures_of
    judges_refused refusal c = judges (Err refusal) (rw (state_of_held s h, c) refl)

    -- of the record's mean
    pub judges_verdict : (verdict : C.Judgement) → record_check s.figures.last r ≡ clear
        → judgement_of verdict ≡ judgement (figures_of s.figures) (part (mean_of s.figures.last r)) → Judges s r (Ok verdict)
    unfolding judge_call figures_of
    judges_verdict verdict c j = judges (Ok verdict) (rw (state_of_held s h, c) (ap judged j))
