-- The contract of open: answer and state are the machine's, and a refused call leaves the very session that it was lent.
use Rattle.std.specs.Prelude.{◌≡◌, Result, Ok, Err, IsErr}
use Rattle.definitions.specs.Layout.{Bytes}
use Rattle.definitions.specs.Machine as M
use Rattle.definitions.specs.Machine.{Answer, State, Outcome, open_call}
use Rattle.definitions.specs.Kept.{Kept, in_session}
use Rattle.layout.specs.declared.refusals.Refusal.{Refusal}
use Rattle.layout.specs.Refusals.{refused_as}
use Rattle.observations.specs.declared.Observations.{Observations}
use Rattle.holding.specs.State.{Held, session_state}

-- the specification's number, place and values for every case of an answer
abbrev pub of_open : Result Unit Refusal → Answer
of_open (Ok done) = M.opened
of_open (Err r) = refused_as r

-- the machine on what a session keeps
abbrev pub opens_to : State Kept → Bytes → Outcome Kept
opens_to = open_call in_session

-- of what is held and observed before, and of what is held and observed after
pub record Opens (s : Held) (o : Observations) (file : Bytes) (r : Result Unit Refusal) (t : Held) (p : Observations) : Type 0 where
  pub answer : of_open r ≡ (opens_to (session_state o s) file).answer
  pub state : session_state p t ≡ (opens_to (session_state o s) file).state
  pub same : IsErr r → (t ≡ s) × (p ≡ o)
