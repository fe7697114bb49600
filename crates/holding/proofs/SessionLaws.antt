-- Judge, sweep, read and page are lent what is held, and their contracts speak of that; so does that of ultimate, with the observations
-- beside it. Of the whole session, whatever observations it keeps, the machine answers the same, and leaves the same beside them.
use Rattle.std.specs.Prelude.{ℕ, ◌≡◌, refl, List, ℤ}
use Rattle.std.proofs.Math.Path.{ap}
use Rattle.definitions.specs.Layout.{Bytes, record_length}
use Rattle.definitions.specs.Page.{page_length}
use Rattle.definitions.specs.Matrix.{Figures}
use Rattle.definitions.specs.Machine.{judge, sweep, read, page, ultimate, answers, outcome}
use Rattle.definitions.specs.Machine.{judge_call, sweep_call, write_call, record_in, page_in, ultimate_call}
use Rattle.definitions.specs.Kept.{latest_in, in_session}
use Rattle.laws.specs.MachineLaws.{map_outcome}
use Rattle.laws.proofs.MachineLaws.{judge_alike, sweep_alike, write_alike, ultimate_alike}
use Rattle.laws.proofs.Ultimates.{same_latest}
use Rattle.observations.specs.declared.Observations.{Observations}
use Rattle.observations.specs.Arrays.{observed_in}
use Rattle.holding.specs.State.{Held, state_of, kept_with, session_state}

module _ (o : Observations) (s : Held) where
  abbrev alone : Figures → Figures
  alone F = F

  pub judge_session : (r : Bytes)
      → outcome in_session (session_state o s) (judge r) ≡ answers (session_state o s) (judge_call alone (state_of s) r)
  unfolding outcome
  judge_session r = ap (answers (session_state o s)) (judge_alike (kept_with o) alone (λ x. x.figures) (λ F. refl) (state_of s) r)

  pub sweep_session : (n : ℕ)
      → outcome in_session (session_state o s) (sweep n) ≡ map_outcome (kept_with o) (sweep_call alone (state_of s) n)
  unfolding outcome
  sweep_session n = sweep_alike (kept_with o) alone (λ x. x.figures) (λ F. refl) (state_of s) n

  write_session : (size : ℕ → ℕ) (text : Figures → List ℤ → Bytes) (b : Bytes)
      → write_call (λ x. x.figures) size text (session_state o s) b ≡ map_outcome (kept_with o) (write_call alone size text (state_of s) b)
  write_session size text b = write_alike (kept_with o) alone (λ x. x.figures) (λ F. refl) size text (state_of s) b

  pub read_session : (b : Bytes)
      → outcome in_session (session_state o s) (read b)
      ≡ map_outcome (kept_with o) (write_call alone record_length record_in (state_of s) b)
  unfolding outcome
  read_session = write_session record_length record_in

  pub page_session : (b : Bytes)
      → outcome in_session (session_state o s) (page b) ≡ map_outcome (kept_with o) (write_call alone page_length page_in (state_of s) b)
  unfolding outcome
  page_session = write_session page_length page_in

  pub ultimate_session : (year : ℕ)
      → outcome in_session (session_state o s) (ultimate year)
      ≡ answers (session_state o s) (ultimate_call alone (λ F. latest_in F.last (observed_in F.last o)) (state_of s) year)
  unfolding outcome
  ultimate_session year =
      ap (answers (session_state o s))
      (ultimate_alike (kept_with o) alone (λ x. x.figures) (λ F. latest_in F.last (observed_in F.last o))
      (λ x. latest_in x.figures.last x.observed) (λ F. refl) (λ F. same_latest) (state_of s) year)
