-- The state of a session that fits, and of one that does not; and what is held of all that a session keeps.
use Rattle.std.specs.Prelude.{◌≡◌, refl}
use Rattle.definitions.specs.Matrix.{Figures}
use Rattle.definitions.specs.Machine.{State, empty, holds, map_state}
use Rattle.observations.specs.declared.Observations.{Observations}
use Rattle.holding.specs.State.{Held, Fits, dec_fits, state_held, state_by, state_of, kept_with, session_state}

pub state_of_held : (s : Held) → Fits s → state_of s ≡ state_held s
unfolding state_of
state_of_held s h = by_case (dec_fits s)
  where
    by_case : (d : Dec (Fits s)) → state_by d s ≡ state_held s
    by_case (yes p) = refl
    by_case (no n) = absurd (n h)

pub state_of_empty : (s : Held) → ¬ Fits s → state_of s ≡ empty
unfolding state_of
state_of_empty s h = by_case (dec_fits s)
  where
    by_case : (d : Dec (Fits s)) → state_by d s ≡ empty
    by_case (yes p) = absurd (h p)
    by_case (no n) = refl

-- the figures of what is kept
pub held_of_session : (o : Observations) (s : Held) → map_state (λ x. x.figures) (session_state o s) ≡ state_of s
held_of_session o s = alone (state_of s)
  where
    alone : (st : State Figures) → map_state (λ x. x.figures) (map_state (kept_with o) st) ≡ st
    alone empty = refl
    alone (holds F μ total) = refl
