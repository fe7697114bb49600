-- The contracts of what C calls follow from the session's, answer by answer.
use Rattle.std.specs.Prelude.{ℕ, ◌≡◌, refl, ◌≢◌, List, get_or, ℤ, Result, Ok, Err, IsOk, IsErr, IsOkAnd}
use Rattle.std.proofs.Common.{zero-le, sym, subst, ◌∙◌, arith}
use Rattle.std.proofs.Math.Path.{ap}
use Rattle.definitions.specs.Words.{part}
use Rattle.definitions.specs.Layout.{Bytes, last_year}
use Rattle.definitions.specs.Refusals.{clear, refuses, row_check}
use Rattle.definitions.specs.Matrix as D
use Rattle.definitions.specs.Strikes.{Step, StruckFile}
use Rattle.definitions.specs.Ultimate.{Divided, numerator, both_variances}
use Rattle.definitions.specs.Machine.{Answer, refused, row_part}
use Rattle.laws.specs.Numbers as Listed
use Rattle.laws.proofs.Numbers as N
use Rattle.laws.proofs.Rows.{row_inside, row_some, row_shown}
use Rattle.readings.specs.declared.rows.RowPlace.{RowPlace}
use Rattle.readings.specs.Rows.{Places}
use Rattle.layout.specs.declared.refusals.Reason.{Reason}
use Rattle.layout.specs.declared.refusals.Reason.TheVariants as R
use Rattle.layout.specs.declared.refusals.Refusal.{Refusal as Refused}
use Rattle.layout.specs.Refusals.{number_of, refused_as}
use Rattle.chain.specs.declared.arrays.Figures.{Figures}
use Rattle.chain.specs.declared.judge.Judgement.{Judgement}
use Rattle.chain.specs.declared.judge.Judgement.TheVariants as J
use Rattle.chain.specs.Arrays.{figures_at}
use Rattle.definitions.specs.Kept.{chain_kept, in_session}
use Rattle.observations.specs.declared.Observations.{Observations}
use Rattle.holding.specs.State.{Held, state_of, session_state}
use Rattle.holding.proofs.StateLaws.{state_of_empty}
use Rattle.opening.specs.Opens as OpenCall
use Rattle.opening.specs.Opens.{of_open}
use Rattle.judging.specs.Judges as JudgeCall
use Rattle.judging.specs.Judges.{of_judge}
use Rattle.sweeping.specs.declared.Progress.{Progress}
use Rattle.sweeping.specs.declared.Progress.TheVariants as S
use Rattle.sweeping.specs.Sweeps as SweepCall
use Rattle.sweeping.specs.Sweeps.{of_sweep}
use Rattle.writing.specs.Writes as WriteCall
use Rattle.writing.specs.Writes.{of_write, Text, writes_to}
use Rattle.showing.specs.Shows as FiguresCall
use Rattle.showing.specs.Shows.{FiguresOf}
use Rattle.telling.specs.declared.Refusal.{Refusal}
use Rattle.telling.specs.declared.Judged.{Judged}
use Rattle.telling.specs.declared.Swept.{Swept}
use Rattle.telling.specs.declared.RowShown.{RowShown}
use Rattle.projecting.specs.declared.Ultimate.{Ultimate}
use Rattle.projecting.specs.Projects as UltimateCall
use Rattle.projecting.specs.Projects.{of_project, latest_with, projects_to}
use Rattle.striking.specs.Strikes as StrikeCall
use Rattle.striking.specs.Strikes.{of_strike}
use Rattle.weighing.specs.Weighs as WeighCall
use Rattle.weighing.specs.Weighs.{weighs_to}
use Rattle.telling.specs.declared.System.{System}
use Rattle.telling.specs.declared.Projected.{Projected}
use Rattle.telling.specs.Told.{none, of_reason, answered, shown_or_told, told, refusal_told, judge_told, sweep_told, told_of_row}
use Rattle.telling.specs.Told.{system_of, system_told, ultimate_told}
use Rattle.desk.specs.Calls.{Numbered, Opens, Strikes, Judges, Sweeps, Writes, figure_of, Projects, Weighs, Shows, Closes, ShowsRow}
use Rattle.desk.specs.CallLaws.{itself}

never_0 : {a : Answer} → Listed.NumberedAnswer a → Numbered a
never_0 listed place e = subst Listed.NumberedAnswer e listed

-- ---- what is told of a refusal by its reason is told of the machine's answer

pub of_answer : {X R : Type 0} (tell : Answer → R) (of : Result X Refused → Answer) → ((x : Refused) → of (Err x) ≡ refused_as x)
    → (a : Result X Refused) {r : R} → r ≡ tell (answered of_reason of a) → r ≡ tell (of a)
of_answer tell of same (Ok x) e = e
of_answer tell of same (Err x) e = e ∙ ap tell (sym (same x))

-- ---- open

pub opens_told : (s : Held) (o : Observations) (file : Bytes) (a : Result Unit Refused) (t : Held) (p : Observations) → OpenCall.Opens s o file a t p
    → {r : Refusal} → r ≡ refusal_told (of_open a) → Opens s o file r t p
opens_told s o file a t p h {r} e = record {
  told = e ∙ ap refusal_told h.answer;
  numbered = never_0 (N.open_numbered in_session (session_state o s) file);
  state = h.state;
  same = λ some. by_answer a h.same (λ none. some (ap (λ x. x.number) e ∙ none));
}
  where
    by_answer : (a : Result Unit Refused) → (IsErr a → (t ≡ s) × (p ≡ o))
        → (refusal_told (of_open a)).number ≢ 0 → (t ≡ s) × (p ≡ o)
    by_answer (Ok done) same some = absurd (some refl)
    by_answer (Err r) same some = same refl

-- ---- strike

pub strikes_told : (d : Step) (s : Held) (o : Observations) (a : Result Unit Refused) (t : Held) (p : Observations)
    → StrikeCall.Strikes d s o a t p → {r : Refusal} → r ≡ refusal_told (of_strike a) → Strikes d s o r t p
strikes_told d s o a t p h {r} e = record {
  told = e ∙ ap refusal_told h.answer;
  numbered = never_0 (N.strike_numbered in_session (session_state o s) d);
  state = h.state;
  same = λ some. by_answer a h.same (λ none. some (ap (λ x. x.number) e ∙ none));
}
  where
    by_answer : (a : Result Unit Refused) → ((e : Refused) → a ≡ Err e → (t ≡ s) × (p ≡ o))
        → (refusal_told (of_strike a)).number ≢ 0 → (t ≡ s) × (p ≡ o)
    by_answer (Ok done) same some = absurd (some refl)
    by_answer (Err r) same some = same r refl

-- ---- judge

is_passed_lem : (a : Result Judgement Refused) → (told (of_judge a)).passing ≡ 1 → a ≡ Ok J.Passed
is_passed_lem (Ok J.Passed) e = refl
is_passed_lem (Ok (J.Fails k)) e = absurd (omega arith)
is_passed_lem (Err r) e = absurd (omega arith)

pub judges_told : (s : Held) (lent : Bytes) (a : Result Judgement Refused) → JudgeCall.Judges s lent a → {r : Judged} → r ≡ judge_told (of_judge a)
    → Judges s lent r
judges_told s lent a h {r} e = record {
  told = e ∙ ap judge_told h.answer;
  numbered = never_0 (N.judge_numbered itself (state_of s) lent);
  worth = λ f μ total open-file one. h.worth f μ total open-file (is_passed_lem a (sym flag ∙ one));
  rounded = λ f μ total open-file c near. flag ∙ ap (λ x. (told (of_judge x)).passing) (h.rounded f μ total open-file c near);
}
  where
    flag : r.passed ≡ (told (of_judge a)).passing
    flag = ap (λ x. x.passed) e

-- ---- sweep

is_settled : (a : Result Progress Refused) → (told (of_sweep a)).passing ≡ 1 → a ≡ Ok (S.Settled (sweep_told (of_sweep a)).total)
is_settled (Ok (S.Settled total)) e = refl
is_settled (Ok (S.Going total)) e = absurd (omega arith)
is_settled (Err r) e = absurd (omega arith)

pub sweeps_told : (s : Held) (n : ℕ) (a : Result Progress Refused) (t : Held) → SweepCall.Sweeps s n a t
    → {r : Swept} → r ≡ sweep_told (of_sweep a) → Sweeps s n r t
sweeps_told s n a t h {r} e = record {
  told = e ∙ ap sweep_told h.answer;
  numbered = never_0 (N.sweep_numbered itself (state_of s) n);
  state = h.state;
  same = λ some. by_answer a h.same (λ none. some (ap (λ x. x.refusal.number) e ∙ none));
  worth = λ f μ ν total before then one.
      h.worth f μ ν total r.total before then (is_settled a (sym flag ∙ one) ∙ ap (λ x. Ok (S.Settled x)) (sym (ap (λ x. x.total) e)));
  rounded = λ f μ ν total after before then w near.
      flag ∙ ap (λ x. (told (of_sweep x)).passing) (h.rounded f μ ν total after before then w near);
}
  where
    flag : r.settled ≡ (told (of_sweep a)).passing
    flag = ap (λ x. x.settled) e

    by_answer : (a : Result Progress Refused) → ((e : Refused) → a ≡ Err e → t ≡ s)
        → (sweep_told (of_sweep a)).refusal.number ≢ 0 → t ≡ s
    by_answer (Ok (S.Settled total)) same some = absurd (some refl)
    by_answer (Ok (S.Going total)) same some = absurd (some refl)
    by_answer (Err r) same some = same r refl

-- ---- read, page and residues

-- an answer that C is told as number 0 is no refusal, as none has that number
is_written : (a : Result Unit Refused) {answer : Answer} → Numbered answer → of_write a ≡ answer → (refusal_told (of_write a)).number ≡ 0
    → IsOk a
is_written (Ok done) numbered same no_number = refl
is_written (Err r) numbered same no_number = absurd (numbered r.place (sym same ∙ ap (λ n. refused n r.place) no_number))

pub writes_told : (size : ℕ → ℕ) (text : Text) (s : Held) (before : Bytes) (a : Result Unit Refused) (after : Bytes)
    → WriteCall.Writes size text s before a after → {r : Refusal} → r ≡ refusal_told (of_write a) → Writes size text s before r after
writes_told size text s before a after h {r} e = record {
  told = e ∙ ap refusal_told h.answer;
  numbered = numbered;
  buffer = h.buffer;
  worth = λ f μ total open-file none.
      h.worth f μ total open-file (is_written a numbered h.answer (sym (ap (λ x. x.number) e) ∙ none));
}
  where
    numbered : Numbered (writes_to size text (state_of s) before).answer
    numbered = never_0 (N.write_numbered itself size text (state_of s) before)

pub weighs_told : (o : Observations) (s : Held) (meanRecord before : Bytes) (a : Result Unit Refused) (after : Bytes)
    → WeighCall.Weighs o s meanRecord before a after → {r : Refusal} → r ≡ refusal_told (of_write a) → Weighs o s meanRecord before r after
weighs_told o s meanRecord before a after h {r} e = record {
  told = e ∙ ap refusal_told h.answer;
  numbered = numbered;
  buffer = h.buffer;
  of_file = λ f μ total file kept none.
      h.of_file f μ total file kept (is_written a numbered h.answer (sym (ap (λ x. x.number) e) ∙ none));
}
  where
    numbered : Numbered (weighs_to (session_state o s) meanRecord before).answer
    numbered = never_0 (N.residues_numbered chain_kept (session_state o s) meanRecord before)

-- ---- ultimate

pub projects_told : (o : Observations) (s : Held) (year : ℕ) (a : Result Ultimate Refused) → UltimateCall.Projects o s year a
    → {r : Projected} → r ≡ ultimate_told (of_project a) → Projects o s year r
projects_told o s year a h {r} e = record {
  told = e ∙ ap ultimate_told h.answer;
  numbered = numbered;
  exact = λ F μ total state done.
      let found = central a h.answer (number ∙ done) in
      subst (Exact F μ) (sym (e ∙ ap (λ x. ultimate_told (of_project x)) found.1)) (h.exact F μ total state found.0 found.1);
  worth = λ f μ total open-file done.
      let found = central a h.answer (number ∙ done) in h.worth f μ total open-file found.0 found.1;
}
  where
    numbered : Numbered (projects_to o (state_of s) year)
    numbered = never_0 (N.ultimate_numbered itself (latest_with o) (state_of s) year)

    number : (refusal_told (of_project a)).number ≡ r.refusal.number
    number = sym (ap (λ x. x.refusal.number) e)

    Exact : D.Figures → List ℤ → Projected → Type 0
    Exact F μ r =
        Divided (numerator F.last (latest_with o F) year (part μ)) (figure_of r)
        × (r.divisor ≡ both_variances F.last (latest_with o F) year)

    central : (a : Result Ultimate Refused) → of_project a ≡ projects_to o (state_of s) year → (refusal_told (of_project a)).number ≡ 0
        → (u : Ultimate) × (a ≡ Ok u)
    central (Ok u) same done = (u, refl)
    central (Err r) same done = absurd (numbered r.place (sym same ∙ ap (λ n. refused n r.place) done))

-- ---- figures

-- no reason has the number 0
reason_numbered : (reason : Reason) → number_of reason ≢ 0
reason_numbered R.Length e = absurd (omega arith)
reason_numbered R.Version e = absurd (omega arith)
reason_numbered R.LastYear e = absurd (omega arith)
reason_numbered R.LengthForYear e = absurd (omega arith)
reason_numbered R.Closeness e = absurd (omega arith)
reason_numbered R.Variance e = absurd (omega arith)
reason_numbered R.PriorVariance e = absurd (omega arith)
reason_numbered R.PriorMean e = absurd (omega arith)
reason_numbered R.Amount e = absurd (omega arith)
reason_numbered R.LastAmounts e = absurd (omega arith)
reason_numbered R.Part e = absurd (omega arith)
reason_numbered R.Sweeps e = absurd (omega arith)
reason_numbered R.Buffer e = absurd (omega arith)
reason_numbered R.Channel e = absurd (omega arith)
reason_numbered R.Row e = absurd (omega arith)
reason_numbered R.NothingOpen e = absurd (omega arith)
reason_numbered R.FileOpen e = absurd (omega arith)
reason_numbered R.Spent e = absurd (omega arith)
reason_numbered R.NotPassed e = absurd (omega arith)
reason_numbered R.UltimateYear e = absurd (omega arith)
reason_numbered R.Step e = absurd (omega arith)
reason_numbered R.LastStep e = absurd (omega arith)

pub shows_told : (s : Held) (a : Result Figures Refused) → FiguresCall.Shows s a → {r : System}
    → r ≡ system_told (shown_or_told of_reason a) → Shows s r
shows_told s a h {r} e = record {
  told = e ∙ ap (λ x. system_told (shown_or_told of_reason x)) h.shown;
  numbered = λ x _. reason_numbered x.reason;
  of_file = λ f μ total open-file. figures_of f a e (h.of_file f μ total open-file);
}
  where
    figures_of : (f : StruckFile) (a : Result Figures Refused) → r ≡ system_told (shown_or_told of_reason a) → IsOkAnd a (λ F. FiguresOf f F)
        → (r.refusal.number ≡ 0) × FiguresOf f (figures_at r.last r.closeness r.own r.matrix r.right_hand)
    figures_of f (Ok F) e h = (
      ap (λ x. x.refusal.number) e,
      subst (λ x. FiguresOf f (figures_at x.last x.closeness x.own x.matrix x.right_hand)) (sym e) h,
    )
    figures_of f (Err x) e h = absurd h

-- what is put beside a refusal is told as the answer that has either
pub puts_told : (s : Held) (a : Result Unit Refused) (F : Figures) → FiguresCall.Puts s a F → {r : System}
    → r ≡ system_of (refusal_told (answered of_reason of_write a)) F → Shows s r
puts_told s (Ok done) F h e = shows_told s (Ok F) h e
puts_told s (Err x) F h e = shows_told s (Err x) h.0 (e ∙ ap (system_of (of_reason x)) h.1)

-- ---- close

pub closed : (held : List ℕ) → get_or held 0 0 ≡ 0 → Closes held
closed held none-held own A b μ = state_of_empty _ (λ h. omega (arith, h.holding))

-- ---- row

row_numbered : (file : Bytes) (channel year place : ℕ) → row_check file channel year ≢ refuses 0 place
row_numbered file channel year place e = (subst Listed.Numbered e (N.row_numbered file channel year)).listed

module _ (file : Bytes) (channel year : ℕ) where
  abbrev shown : RowShown
  shown = told_of_row (last_year file) channel year clear

  pub row_refused : (number place : ℕ) → row_check file channel year ≡ refuses number place
      → ShowsRow file channel year (told_of_row (last_year file) channel year (refuses number place))
  unfolding row_part
  row_refused number place e = record {
    told = ap (told_of_row (last_year file) channel year) (sym e);
    numbered = row_numbered file channel year;
    shows = rw e refl;
    inside = zero-le;
    empty_refused = ((λ _ none. row_numbered file channel year place (e ∙ ap (λ n. refuses n place) none)), (λ _. refl));
  }

  row_at : row_check file channel year ≡ clear → ShowsRow file channel year shown
  row_at e = record {
    told = ap (told_of_row (last_year file) channel year) (sym e);
    numbered = row_numbered file channel year;
    shows = sym (row_shown file channel year e);
    inside = row_inside file channel year e;
    empty_refused = ((λ none _. omega (arith, row_some file channel year e)), (λ some. absurd (some refl)));
  }

  pub row_shows : (r : RowPlace) → row_check file channel year ≡ clear → Places file channel year r
      → ShowsRow file channel year (record { refusal = none; start = r.start; length = r.length })
  row_shows r e h = rw (h.start, h.length) (row_at e)
