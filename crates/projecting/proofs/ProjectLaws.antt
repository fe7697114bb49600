-- The machine's outcome of ultimate, case by case: what the call shows of its answer.
use Rattle.std.specs.Prelude.{ℕ, ◌≤◌, ◌<◌, ◌≡◌, Result, Ok, Err, Bool, not, List, ℤ, pos}
use Rattle.std.proofs.Math.Path.{refl, sym}
use Rattle.std.proofs.Common.{ap, ◌∙◌, arith, inl, inr}
use Rattle.std.proofs.Math.Bool.{true, false, cond}
use borrow.Author.Tests.{le-leb, lt-leb}
use Rattle.definitions.specs.Words.{within, part}
use Rattle.definitions.specs.Layout.{parts}
use Rattle.definitions.specs.Matrix as D
use Rattle.definitions.specs.Matrix.{passes}
use Rattle.definitions.specs.Strikes.{figures_left}
use Rattle.definitions.specs.Ultimate as U
use Rattle.definitions.specs.Ultimate.{ultimate_of}
use Rattle.definitions.specs.Machine.{refused, ultimate_is, holds, ultimate_call}
use Rattle.laws.proofs.Accepted.{within_yes}
use Rattle.laws.proofs.Tables.{tab_at}
use Rattle.laws.proofs.Ultimates.{same_latest, ultimate_divided, ultimate_divisor, ultimate_cong}
use Rattle.layout.specs.declared.refusals.Reason.TheVariants.{NothingOpen, NotPassed, UltimateYear}
use Rattle.layout.specs.declared.refusals.Refusal.{Refusal}
use Rattle.observations.specs.declared.Observations.{Observations}
use Rattle.chain.specs.Arrays.{figures_of, mean_of}
use Rattle.holding.specs.State.{Held, Fits, state_held, state_of}
use Rattle.holding.proofs.StateLaws.{state_of_held, state_of_empty}
use Rattle.holding.proofs.Worth.{worth}
use Rattle.holding.specs.Passing.{Refused, held_passes}
use Rattle.projecting.specs.declared.Ultimate.{Ultimate}
use Rattle.projecting.proofs.CentralLaws.{divisor_some}
use Rattle.projecting.specs.Projects.{of_ultimate, of_project, latest_with, projects_to, Projects}
use Rattle.projecting.specs.ProjectLaws.{Answered}

module _ (o : Observations) (F : D.Figures) (μ : List ℤ) (total year : ℕ) (u : U.Ultimate) where
  abbrev figure : U.Ultimate
  figure = ultimate_of F.last (latest_with o F) year (part μ)

  answered : projects_to o (holds F μ total) year ≡ ultimate_is u → Answered o F μ year u
  unfolding ultimate_call
  answered = by_tests (passes F (part μ)) (within 1 F.last year) refl refl
    where
      by_tests : (p t : Bool) → passes F (part μ) ≡ p → within 1 F.last year ≡ t
          → cond (not p) (refused 24 0) (cond (not t) (refused 25 0) (ultimate_is figure)) ≡ ultimate_is u → Answered o F μ year u
      by_tests false t p-is t-is e = cc
      by_tests true false p-is t-is e = cc
      by_tests true true p-is t-is e = record { passing = p-is; year_there = within_yes 1 F.last year (rw t-is tt); is = cc }

module _ (o : Observations) (s : Held) (year : ℕ) where
  projects_as : (r : Result Ultimate Refusal) → of_project r ≡ projects_to o (state_of s) year → Projects o s year r
  projects_as r a = record {
    answer = a;
    exact = λ F μ total state u told.
        let found = answered o F μ total year (of_ultimate u) (told_by state told) in
        let divided = ultimate_divided F.last (latest_with o F) year (part μ)
        (divisor_some F.last o year found.year_there.from found.year_there.to) in
        (rw found.is divided, ap (λ v. v.divisor) found.is ∙ ultimate_divisor F.last (latest_with o F) year (part μ));
    worth = λ f μ total open-file u told.
        worth open-file μ (answered o (figures_left f) μ total year (of_ultimate u) (told_by open-file.state told)).passing;
  }
    where
      told_by : {F : D.Figures} {μ : List ℤ} {total : ℕ} {u : Ultimate} → state_of s ≡ holds F μ total → r ≡ Ok u
          → projects_to o (holds F μ total) year ≡ ultimate_is (of_ultimate u)
      told_by state told = ap (λ st. projects_to o st year) (sym state) ∙ sym a ∙ ap of_project told

  pub projects_closed : ¬ Fits s → Projects o s year (Err (record { reason = NothingOpen; place = 0 }))
  unfolding ultimate_call
  projects_closed h = projects_as _ (rw (state_of_empty s h) refl)

  module _ (h : Fits s) where
    abbrev F : D.Figures
    F = figures_of s.figures

    is_open : state_of s ≡ state_held s
    is_open = state_of_held s h

    pub projects_failing : held_passes s ≡ false → Projects o s year (Err (record { reason = NotPassed; place = 0 }))
    unfolding ultimate_call
    projects_failing p = projects_as _ (rw (is_open, p) refl)

    module _ (p : held_passes s ≡ true) where
      pub projects_before : year < 1 → Projects o s year (Err (record { reason = UltimateYear; place = 0 }))
      unfolding ultimate_call figures_of
      projects_before before = projects_as _ (rw (is_open, p, lt-leb 1 year before) refl)

      pub projects_behind : s.figures.last < year → Projects o s year (Err (record { reason = UltimateYear; place = 0 }))
      unfolding ultimate_call figures_of
      projects_behind behind = projects_as _ (rw (is_open, p, le-leb 1 year (omega arith), lt-leb year s.figures.last behind) refl)

      pub projects_central : {r : Ultimate} → 1 ≤ year → year ≤ s.figures.last
          → of_ultimate r ≡ ultimate_of s.figures.last (latest_with o F) year (part s.mean) → Projects o s year (Ok r)
      unfolding ultimate_call figures_of
      projects_central from to e =
          projects_as _ (rw (is_open, p, le-leb 1 year from, le-leb year s.figures.last to) (ap ultimate_is (e ∙ same_mean)))
        where
          same_mean : ultimate_of s.figures.last (latest_with o F) year (part s.mean)
              ≡ ultimate_of s.figures.last (latest_with o F) year (part (mean_of s.figures.last s.mean))
          same_mean = ultimate_cong same_latest to (λ k below. sym (tab_at (parts s.figures.last) (part s.mean) k (pos 0) below))

  -- what 21 and 24 refuse
  pub projects_refused : (r : Refusal) → Refused s r → Projects o s year (Err r)
  projects_refused r (inl (is-21, nothing)) = rw is-21 (projects_closed nothing)
  projects_refused r (inr (is-24, open-file, fails)) = rw is-24 (projects_failing open-file fails)
