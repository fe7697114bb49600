-- What callers can count on, in plain numbers, each drawn from the contract of strike alone.
use Rattle.std.specs.Prelude.{ℕ, ◌≡◌, refl, Ok, Err, List, ◌∷◌, ℤ}
use Rattle.std.proofs.Common.{sym, ◌∙◌}
use Rattle.std.proofs.Math.Path.{ap}
use Rattle.definitions.specs.Words.{tab_from}
use Rattle.definitions.specs.Layout.{last_year, parts, prior_mean}
use Rattle.definitions.specs.Refusals.{Check, clear, refuses}
use Rattle.definitions.specs.Matrix.{figures_from}
use Rattle.definitions.specs.Strikes.{Step, StruckFile, Admitted, is_struck, strike_check}
use Rattle.definitions.specs.Machine.{struck_out, strike, holds, map_state, strike_unless, strike_call, the_file, outcome}
use Rattle.definitions.specs.Kept.{kept_of, in_session}
use Rattle.laws.specs.MachineLaws.{map_outcome}
use Rattle.laws.proofs.MachineLaws.{outcome_alike, session_alike}
use Rattle.laws.proofs.StruckSteps.{strikable, strike_leaves}
use Rattle.layout.specs.declared.refusals.Refusal.{Refusal}
use Rattle.observations.specs.declared.Observations.{Observations}
use Rattle.holding.specs.State.{Held, session_state, HoldsFile}
use Rattle.holding.proofs.StateLaws.{held_of_session}
use Rattle.striking.specs.Strikes.{strikes_to, Strikes}

-- a call that is refused leaves the session as it was
pub strike_refused : (d : Step) (s t : Held) (o p : Observations) (refusal : Refusal) → Strikes d s o (Err refusal) t p
    → (t ≡ s) × (p ≡ o)
strike_refused d s t o p refusal call = call.same refusal refl

-- ---- what a strike leaves of a file is a file that the other calls speak of, with that step struck, the prior means and no sweep run

module _ (d : Step) (s t : Held) (o p : Observations) (f : StruckFile) (μ : List ℤ) (count : ℕ) (file : Admitted f)
    (kept : session_state o s ≡ holds (kept_of f) μ count) (call : Strikes d s o (Ok tt) t p) where
  abbrev without_it : StruckFile
  without_it = record { file = f.file; struck = d ∷ f.struck }

  abbrev start : List ℤ
  start = tab_from 0 (parts (last_year f.file)) (prior_mean f.file)

  abbrev check : Check
  check = strike_check (last_year f.file) (is_struck f) d

  -- as the specification's machine has it
  as_file : strikes_to (session_state o s) d ≡ map_outcome kept_of (strike_unless the_file check d f μ count)
  unfolding outcome strike_call figures_from
  as_file = ap (λ st. strikes_to st d) kept ∙ outcome_alike the_file in_session kept_of session_alike (holds f μ count) (strike d)

  struck_to : (check ≡ clear) × (session_state p t ≡ holds (kept_of without_it) start 0)
  struck_to =
      by_check check refl (call.answer ∙ ap (λ x. x.answer) as_file) (call.state ∙ ap (λ x. x.state) as_file)
    where
      by_check : (c : Check) → check ≡ c → struck_out ≡ (strike_unless the_file c d f μ count).answer
          → session_state p t ≡ map_state kept_of (strike_unless the_file c d f μ count).state
          → (check ≡ clear) × (session_state p t ≡ holds (kept_of without_it) start 0)
      by_check clear e a st = (e, st)
      by_check (refuses number place) e a st = cc

  pub struck_keeps : session_state p t ≡ holds (kept_of without_it) start 0
  struck_keeps = struck_to.1

  pub struck_holds : HoldsFile t without_it start 0
  struck_holds =
      let J : ℕ = last_year f.file in
      let free = strikable J (is_struck f) d struck_to.0 in
      record {
        file = record {
          taken = file.taken;
          left = strike_leaves J (is_struck f) d file.left free.there free.unstruck free.another;
        };
        state = sym (held_of_session p t) ∙ ap (map_state (λ x. x.figures)) struck_keeps;
      }
