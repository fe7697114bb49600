-- What C's callers can count on of an ultimate, in plain numbers, drawn from its contract alone: of any session, and of one that keeps an
-- accepted file in document 02's letters (`PinnedUltimate` of the laws).
use Rattle.std.specs.Prelude.{ℕ, ◌+◌, ◌≤◌, ◌<◌, ◌≡◌, ◌≢◌, true, false, List, ℤ, pos, ◌+ℤ◌, ◌*ℤ◌}
use Rattle.std.proofs.Math.Path.{refl, ap}
use Rattle.std.proofs.Common.{sym, ◌∙◌, arith}
use borrow.Author.Tests.{le-leb, lt-leb}
use Rattle.definitions.specs.Words.{part}
use Rattle.definitions.specs.Layout.{last_year, closeness}
use Rattle.definitions.specs.Refusals.{accepted}
use Rattle.definitions.specs.Matrix.{Figures, figures_from, passes}
use Rattle.definitions.specs.Strikes.{StruckFile, figures_left}
use Rattle.definitions.specs.Ultimate as U
use Rattle.definitions.specs.Ultimate.{numerator, both_variances, ultimate_of}
use Rattle.definitions.specs.Machine.{refused, ultimate, empty, holds, the_file, ultimate_call, outcome}
use Rattle.definitions.specs.Kept.{kept_of, in_session}
use Rattle.laws.proofs.MachineLaws.{outcome_alike, session_alike}
use Rattle.laws.proofs.Pinned.{Worth, worth}
use Rattle.laws.proofs.PinnedUltimate.{N, M, figure, exact}
use Rattle.observations.specs.declared.Observations.{Observations}
use Rattle.holding.specs.State.{Held, state_of, session_state, HoldsFile}
use Rattle.holding.proofs.SessionLaws.{ultimate_session}
use Rattle.projecting.specs.Projects.{latest_with, projects_to}
use Rattle.telling.specs.declared.Projected.{Projected}
use Rattle.telling.specs.Told.{none, ultimate_told}
use Rattle.desk.specs.Calls.{Projects}
use Rattle.desk.specs.PinnedUltimate.{refused_with}

module _ (o : Observations) (s : Held) (year : ℕ) (r : Projected) (call : Projects o s year r) where
  pub ultimate_told_lem : r ≡ ultimate_told (projects_to o (state_of s) year)
  ultimate_told_lem = call.told

  pub ultimate_numbered : (place : ℕ) → projects_to o (state_of s) year ≢ refused 0 place
  ultimate_numbered = call.numbered

  -- 21, 24, 25
  pub ultimate_closed : state_of s ≡ empty → r ≡ refused_with 21
  unfolding ultimate_call
  ultimate_closed closed = call.told ∙ rw closed refl

  module _ (F : Figures) (μ : List ℤ) (count : ℕ) (some : state_of s ≡ holds F μ count) where
    pub ultimate_failing : passes F (part μ) ≡ false → r ≡ refused_with 24
    unfolding ultimate_call
    ultimate_failing fails = call.told ∙ rw (some, fails) refl

    pub ultimate_year_0 : passes F (part μ) ≡ true → year ≡ 0 → r ≡ refused_with 25
    unfolding ultimate_call
    ultimate_year_0 p is-0 = call.told ∙ rw (some, p, is-0) refl

    pub ultimate_behind : passes F (part μ) ≡ true → F.last < year → r ≡ refused_with 25
    unfolding ultimate_call
    ultimate_behind p behind = call.told ∙ rw (some, p, le-leb 1 year (omega arith), lt-leb year F.last behind) refl

    -- of every session, whatever stands in it
    pub ultimate_exact : r.refusal.number ≡ 0
        → (r.floor *ℤ pos r.divisor +ℤ pos r.remainder ≡ numerator F.last (latest_with o F) year (part μ))
        × (r.remainder < r.divisor)
        × (r.divisor ≡ both_variances F.last (latest_with o F) year)
    ultimate_exact done = let h = call.exact F μ count some done in (h.0.whole, h.0.below, h.1)

  pub ultimate_worth : (f : StruckFile) (μ : List ℤ) (count : ℕ) → HoldsFile s f μ count → {e : ℕ} → closeness f.file ≡ e
      → r.refusal.number ≡ 0 → Worth f e (part μ)
  ultimate_worth f μ count open-file close done = worth f close (call.worth f μ count open-file done)

  -- of a session that keeps a file whose mean passes, whatever steps are struck: its logarithms and variances stay
  module _ (f : StruckFile) (μ : List ℤ) (count : ℕ) (kept : session_state o s ≡ holds (kept_of f) μ count)
      (p : passes (figures_left f) (part μ) ≡ true) (from : 1 ≤ year) (to : year ≤ last_year f.file) where
    abbrev found : U.Ultimate
    found = ultimate_of (last_year f.file) (U.latest_of f.file) year (part μ)

    answer : r ≡ ultimate_told (projects_to o (state_of s) year)
        → r ≡ record { refusal = none; floor = found.floor; remainder = found.remainder; divisor = found.divisor }
    unfolding outcome ultimate_call figures_from
    answer told =
        told
        ∙ ap (λ x. ultimate_told x.answer) (sym (ultimate_session o s year))
        ∙ ap (λ st. ultimate_told (outcome in_session st (ultimate year)).answer) kept
        ∙ ap (λ x. ultimate_told x.answer) (outcome_alike the_file in_session kept_of session_alike (holds f μ count) (ultimate year))
        ∙ rw (p, le-leb 1 year from, le-leb year (last_year f.file) to) refl

    pub ultimate_of_file : accepted f.file ≡ true
        → (r.refusal ≡ record { number = 0; place = 0 })
        × (r.floor *ℤ pos (N f.file year (part μ) + M f.file year (part μ)) +ℤ pos r.remainder ≡ figure f.file year (part μ))
        × (r.remainder < N f.file year (part μ) + M f.file year (part μ))
        × (r.divisor ≡ N f.file year (part μ) + M f.file year (part μ))
    ultimate_of_file taken = let h = exact f.file year (part μ) taken from to in rw (answer call.told) (refl, h.0, h.1, h.2)
