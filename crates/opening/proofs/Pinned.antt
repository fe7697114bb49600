-- What callers can count on, in plain numbers, each drawn from the contract of open alone.
use Rattle.std.specs.Prelude.{ℕ, ◌≡◌, Result, Ok, Err}
use Rattle.std.proofs.Math.Path.{refl, ap}
use Rattle.std.proofs.Common.{sym, ◌∙◌, arith}
use Rattle.definitions.specs.Words.{tab_from}
use Rattle.definitions.specs.Layout.{Bytes, last_year, parts, prior_mean}
use Rattle.definitions.specs.Refusals.{Check, clear, refuses, file_check, is_clear}
use Rattle.definitions.specs.Strikes.{unstruck}
use Rattle.definitions.specs.Machine.{Answer, opened, refused, empty, holds, map_state, Outcome, open_unless, open_call}
use Rattle.definitions.specs.Kept.{Kept, kept_of, in_session}
use Rattle.laws.proofs.StruckFiles.{admitted}
use Rattle.laws.proofs.Number16.{open_with16, alike_without_16}
use Rattle.layout.specs.declared.refusals.Refusal.{Refusal}
use Rattle.observations.specs.declared.Observations.{Observations}
use Rattle.holding.specs.State.{Held, state_of, kept_with, session_state, HoldsFile}
use Rattle.holding.proofs.StateLaws.{held_of_session}
use Rattle.opening.specs.Opens.{of_open, opens_to, Opens}

-- a call that is refused leaves the session as it was
pub open_refused : (s t : Held) (o p : Observations) (file : Bytes) (r : Refusal) → Opens s o file (Err r) t p
    → (t ≡ s) × (p ≡ o)
open_refused s t o p file r call = call.same refl

-- ---- what open leaves is a file that the other calls speak of, with its observations

opened_refused : {number place : ℕ} → ◌≡◌ {A = Answer} opened (refused number place) → ⊥
opened_refused e = let z : ◌≡◌ {A = ℕ} 0 1 = cc in omega arith

module _ (s t : Held) (o p : Observations) (f : Bytes) (none : state_of s ≡ empty) (call : Opens s o f (Ok tt) t p) where
  abbrev to : Check → Outcome Kept
  to c = open_unless in_session c f

  opened_to : (file_check f ≡ clear) × (session_state p t ≡ (to clear).state)
  unfolding open_call
  opened_to =
      by_check (file_check f) refl (call.answer ∙ ap (λ st. (opens_to (map_state (kept_with o) st) f).answer) none)
      (call.state ∙ ap (λ st. (opens_to (map_state (kept_with o) st) f).state) none)
    where
      by_check : (c : Check) → file_check f ≡ c → opened ≡ (to c).answer → session_state p t ≡ (to c).state
          → (file_check f ≡ clear) × (session_state p t ≡ (to clear).state)
      by_check clear e a st = (e, st)
      by_check (refuses number place) e a st = absurd (opened_refused a)

  pub opened_keeps : session_state p t ≡ holds (kept_of (unstruck f)) (tab_from 0 (parts (last_year f)) (prior_mean f)) 0
  opened_keeps = opened_to.1

  pub opened_holds : HoldsFile t (unstruck f) (tab_from 0 (parts (last_year f)) (prior_mean f)) 0
  opened_holds = record {
    file = admitted f (ap is_clear opened_to.0);
    state = sym (held_of_session p t) ∙ ap (map_state (λ x. x.figures)) opened_keeps;
  }

-- ---- document 02: with number 16 behind 1 to 10, of every session and file, it would answer and leave the same

pub as_with_16 : (s t : Held) (o p : Observations) (f : Bytes) (r : Result Unit Refusal) → Opens s o f r t p
    → let with_16 : Outcome Kept = open_with16 Kept in_session (session_state o s) f in
    (of_open r ≡ with_16.answer) × (session_state p t ≡ with_16.state)
as_with_16 s t o p f r call =
    let same = sym (alike_without_16 Kept in_session (session_state o s) f) in
    (call.answer ∙ ap (λ x. x.answer) same, call.state ∙ ap (λ x. x.state) same)
