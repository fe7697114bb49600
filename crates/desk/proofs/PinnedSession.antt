-- C's session as a whole, call by call: whatever stands in its arrays, what a call tells and what it leaves are the outcome of the machine
-- on all that a session keeps, observations and struck steps included; and that machine's outcomes, over lists of calls, are those of the
-- specification's (`Pinned` of the laws). Each is drawn from the contract of a call alone.
use Rattle.std.specs.Prelude.{ℕ, ◌≡◌, List, ℤ}
use Rattle.std.proofs.Common.{sym, ◌∙◌}
use Rattle.std.proofs.Math.Path.{ap}
use Rattle.definitions.specs.Layout.{Bytes}
use Rattle.definitions.specs.Strikes.{Step}
use Rattle.definitions.specs.Machine.{open_file, judge, sweep, read, page, ultimate, strike, residues, close, State, map_state, Outcome, outcome}
use Rattle.definitions.specs.Kept.{Kept, chain_kept, in_session}
use Rattle.laws.proofs.MachineLaws.{residues_alone}
use Rattle.observations.specs.declared.Observations.{Observations}
use Rattle.holding.specs.State.{Held, held_in, kept_with, session_state}
use Rattle.holding.proofs.SessionLaws.{judge_session, sweep_session, read_session, page_session, ultimate_session}
use Rattle.telling.specs.declared.Refusal.{Refusal}
use Rattle.telling.specs.declared.Judged.{Judged}
use Rattle.telling.specs.declared.Swept.{Swept}
use Rattle.telling.specs.declared.Projected.{Projected}
use Rattle.telling.specs.Told.{refusal_told, judge_told, sweep_told, ultimate_told}
use Rattle.desk.specs.Calls.{Opens, Strikes, Judges, Sweeps, Reads, Pages, ProjectsLent, WeighsLent, Closes}

module _ (o : Observations) (s : Held) where
  abbrev st : State Kept
  st = session_state o s

  pub opens_all : (p : Observations) (t : Held) (file : Bytes) (r : Refusal) → Opens s o file r t p
      → let x : Outcome Kept = outcome in_session st (open_file file) in (r ≡ refusal_told x.answer) × (session_state p t ≡ x.state)
  unfolding outcome
  opens_all p t file r call = (call.told, call.state)

  pub strikes_all : (p : Observations) (t : Held) (d : Step) (r : Refusal) → Strikes d s o r t p
      → let x : Outcome Kept = outcome in_session st (strike d) in (r ≡ refusal_told x.answer) × (session_state p t ≡ x.state)
  unfolding outcome
  strikes_all p t d r call = (call.told, call.state)

  pub judges_all : (lent : Bytes) (r : Judged) → Judges s lent r → r ≡ judge_told (outcome in_session st (judge lent)).answer
  judges_all lent r call = call.told ∙ ap (λ x. judge_told x.answer) (sym (judge_session o s lent))

  -- beside the same observations, which it is not lent
  pub sweeps_all : (t : Held) (n : ℕ) (r : Swept) → Sweeps s n r t
      → let x : Outcome Kept = outcome in_session st (sweep n) in (r ≡ sweep_told x.answer) × (session_state o t ≡ x.state)
  sweeps_all t n r call =
      let whole = sym (sweep_session o s n) in
      (call.told ∙ ap (λ x. sweep_told x.answer) whole, ap (map_state (kept_with o)) call.state ∙ ap (λ x. x.state) whole)

  -- written by a call
  abbrev Written : Refusal → Bytes → Outcome Kept → Type 0
  Written r after x = (r ≡ refusal_told x.answer) × (after ≡ x.buffer)

  pub reads_all : (lent after : Bytes) (r : Refusal) → Reads s lent r after → Written r after (outcome in_session st (read lent))
  reads_all lent after r call =
      let whole = sym (read_session o s lent) in
      (call.told ∙ ap (λ x. refusal_told x.answer) whole, call.buffer ∙ ap (λ x. x.buffer) whole)

  pub pages_all : (lent after : Bytes) (r : Refusal) → Pages s lent r after → Written r after (outcome in_session st (page lent))
  pages_all lent after r call =
      let whole = sym (page_session o s lent) in
      (call.told ∙ ap (λ x. refusal_told x.answer) whole, call.buffer ∙ ap (λ x. x.buffer) whole)

  -- whatever its weights and marks, which it is not lent
  pub projects_all : (year : ℕ) (r : Projected) → ProjectsLent o.ticks o.variances s year r
      → r ≡ ultimate_told (outcome in_session st (ultimate year)).answer
  projects_all year r call = (call o.weights o.struck).told ∙ ap (λ x. ultimate_told x.answer) (sym (ultimate_session o s year))

  -- whatever its variances, which it is not lent; the session stays
  pub weighs_all : (lent before after : Bytes) (r : Refusal) → WeighsLent o.ticks o.weights o.struck s lent before r after
      → Written r after (outcome in_session st (residues lent before)) × ((outcome in_session st (residues lent before)).state ≡ st)
  unfolding outcome
  weighs_all lent before after r call =
      let h = call o.variances in ((h.told, h.buffer), residues_alone chain_kept st lent before)

  pub closes_all : (held : List ℕ) → Closes held → (D : List ℕ) (A b μ : List ℤ) (p : Observations)
      → session_state p (held_in held D A b μ) ≡ (outcome in_session st close).state
  unfolding outcome
  closes_all held call D A b μ p = ap (map_state (kept_with p)) (call D A b μ)
