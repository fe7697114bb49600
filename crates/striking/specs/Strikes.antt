-- The contract of strike: answer and state are the machine's, and a refused call leaves the very session that it was lent.
use Rattle.std.specs.Prelude.{ℕ, ◌≡◌, List, ℤ, Result, Ok, Err}
use Rattle.definitions.specs.Strikes.{Step, step}
use Rattle.definitions.specs.Machine as M
use Rattle.definitions.specs.Machine.{Answer, State, Outcome, strike_call}
use Rattle.definitions.specs.Kept.{Kept, in_session}
use Rattle.layout.specs.declared.refusals.Refusal.{Refusal}
use Rattle.layout.specs.Refusals.{refused_as}
use Rattle.observations.specs.declared.Observations.{Observations}
use Rattle.observations.specs.Arrays.{observations_at}
use Rattle.holding.specs.State.{Held, session_state}

-- the specification's number, place and values for every case of an answer
abbrev pub of_strike : Result Unit Refusal → Answer
of_strike (Ok done) = M.struck_out
of_strike (Err r) = refused_as r

-- the machine on what a session keeps
abbrev pub strikes_to : State Kept → Step → Outcome Kept
strikes_to = strike_call in_session

-- of what is held and observed before, and of what is held and observed after
pub record Strikes (d : Step) (s : Held) (o : Observations) (r : Result Unit Refusal) (t : Held) (p : Observations) : Type 0 where
  pub answer : of_strike r ≡ (strikes_to (session_state o s) d).answer
  pub state : session_state p t ≡ (strikes_to (session_state o s) d).state
  pub same : (refusal : Refusal) → r ≡ Err refusal → (t ≡ s) × (p ≡ o)

-- of lent arrays, whatever variances the session keeps beside them
abbrev pub StrikesLent : ℕ → ℕ → ℕ → Held → List ℤ → List ℕ → List ℕ → Result Unit Refusal → Held → List ℤ → List ℕ → List ℕ → Type 0
StrikesLent channel i j s ticks weights struck r t ticks' weights' struck' =
    (variances : List ℕ) → Strikes (step channel i j) s (observations_at ticks weights variances struck) r
    t (observations_at ticks' weights' variances struck')
