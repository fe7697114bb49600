-- What C's callers can count on of a strike, in plain numbers, drawn from its contract alone: of any session, and of one that keeps a file.
use Rattle.std.specs.Prelude.{ℕ, suc, ◌+◌, ◌-◌, ◌≤◌, ◌<◌, ◌≡◌, ◌≢◌, true, List, ◌∷◌, ℤ}
use Rattle.std.proofs.Math.Path.{refl, ap}
use Rattle.std.proofs.Common.{◌∙◌, arith}
use Rattle.std.proofs.Math.Bool.{false}
use borrow.Author.Tests.{le-leb, lt-leb, eq-eqb, ne_eqb}
use Rattle.std.proofs.Math.Dec.{eqb}
use Rattle.definitions.specs.Words.{tab_from}
use Rattle.definitions.specs.Layout.{last_year, parts, prior_mean}
use Rattle.definitions.specs.Refusals.{clear}
use Rattle.definitions.specs.Strikes.{Step, step, is_step, left_beside, strike_check, StruckFile, is_struck}
use Rattle.definitions.specs.Matrix.{figures_from}
use Rattle.definitions.specs.Machine.{refused, strike, empty, holds, map_state, the_file, strike_unless, strike_call, outcome}
use Rattle.definitions.specs.Kept.{kept_of, in_session}
use Rattle.laws.specs.MachineLaws.{map_outcome}
use Rattle.laws.proofs.MachineLaws.{outcome_alike, session_alike}
use Rattle.laws.specs.StruckSteps.{left_of}
use Rattle.laws.proofs.StruckSteps.{two_left}
use Rattle.observations.specs.declared.Observations.{Observations}
use Rattle.holding.specs.State.{Held, session_state}
use Rattle.striking.specs.Strikes.{strikes_to}
use Rattle.telling.specs.declared.Refusal.{Refusal}
use Rattle.telling.specs.Told.{refusal_told}
use Rattle.desk.specs.Calls.{Strikes}
use Rattle.desk.specs.PinnedStrikes.{refusal}

module _ (channel i j : ℕ) (s t : Held) (o p : Observations) (r : Refusal) (call : Strikes (step channel i j) s o r t p) where
  abbrev d : Step
  d = step channel i j

  pub strike_told : r ≡ refusal_told (strikes_to (session_state o s) d).answer
  strike_told = call.told

  pub strike_numbered : (place : ℕ) → (strikes_to (session_state o s) d).answer ≢ refused 0 place
  strike_numbered = call.numbered

  pub strike_state : session_state p t ≡ (strikes_to (session_state o s) d).state
  strike_state = call.state

  pub strike_refused : r.number ≢ 0 → (t ≡ s) × (p ≡ o)
  strike_refused = call.same

  pub strike_closed : session_state o s ≡ empty → r ≡ refusal 21
  unfolding strike_call
  strike_closed closed = call.told ∙ rw closed refl

  -- of a session that keeps a file: 14, 26, 27, and what is left of it
  module _ (f : StruckFile) (μ : List ℤ) (count : ℕ) (kept : session_state o s ≡ holds (kept_of f) μ count) where
    abbrev J : ℕ
    J = last_year f.file

    abbrev without_it : StruckFile
    without_it = record { file = f.file; struck = step channel i j ∷ f.struck }

    abbrev start : List ℤ
    start = tab_from 0 (parts (last_year f.file)) (prior_mean f.file)

    -- as the specification's machine has it
    as_file : strikes_to (session_state o s) d ≡ map_outcome kept_of (strike_call the_file (holds f μ count) d)
    unfolding outcome
    as_file = ap (λ st. strikes_to st d) kept ∙ outcome_alike the_file in_session kept_of session_alike (holds f μ count) (strike d)

    told : r ≡ refusal_told (strike_call the_file (holds f μ count) d).answer
    told = call.told ∙ ap (λ x. refusal_told x.answer) as_file

    pub no_channel : 1 < channel → r ≡ refusal 14
    unfolding strike_call strike_check figures_from
    no_channel past = told ∙ rw (lt-leb channel 1 past) refl

    pub no_paid_step : channel ≡ 0 → J < i + j → r ≡ refusal 26
    unfolding strike_call strike_check is_step figures_from
    no_paid_step paid past = told ∙ rw (paid, lt-leb (i + j) J past) refl

    pub no_incurred_step : channel ≡ 1 → J ≤ i + j → r ≡ refusal 26
    unfolding strike_call strike_check is_step figures_from
    no_incurred_step incurred past = told ∙ rw (incurred, lt-leb (suc (i + j)) J (omega (arith, past))) refl

    -- of a step that there is
    pub struck_already : channel ≤ 1 → is_step J (step channel i j) ≡ true → is_struck f (step channel i j) ≡ true → r ≡ refusal 26
    unfolding strike_call strike_check figures_from
    struck_already of_channel there gone = told ∙ rw (le-leb channel 1 of_channel, there, gone) refl

    pub last_left : channel ≤ 1 → is_step J (step channel i j) ≡ true → is_struck f (step channel i j) ≡ false
        → left_beside J (is_struck f) (step channel i j) ≡ 1 → r ≡ refusal 27
    unfolding strike_call strike_check figures_from
    last_left of_channel there free one = told ∙ rw (le-leb channel 1 of_channel, there, free, one) refl

    -- and of one beside which another one of its column is left: it is struck out, with the prior means and no sweep run
    done : channel ≤ 1 → is_step J d ≡ true → is_struck f d ≡ false → left_beside J (is_struck f) d ≢ 1
        → (r ≡ refusal 0) × (session_state p t ≡ holds (kept_of without_it) start 0)
    unfolding strike_call strike_check figures_from
    done of_channel there free more =
        let passed : strike_check J (is_struck f) d ≡ clear = rw (le-leb channel 1 of_channel, there, free, ne_eqb _ 1 more) refl in
        let out : strike_call the_file (holds f μ count) d ≡ strike_unless the_file clear d f μ count =
        ap (λ c. strike_unless the_file c d f μ count) passed in
        (told ∙ ap (λ x. refusal_told x.answer) out, call.state ∙ ap (λ x. x.state) as_file ∙ ap (λ x. map_state kept_of x.state) out)

    pub paid_struck : channel ≡ 0 → i + j ≤ J → is_struck f (step channel i j) ≡ false
        → (k : ℕ) → i ≢ k → k + j ≤ J → is_struck f (step channel k j) ≡ false
        → (r ≡ refusal 0) × (session_state p t ≡ holds (kept_of without_it) start 0)
    unfolding is_step left_beside
    paid_struck paid there free k other also left =
        let many = two_left (J - j + 1) i k (λ i. is_struck f (step channel i j)) (omega arith) (omega arith) other free left in
        let counted : left_beside J (is_struck f) d ≡ left_of (J - j + 1) (λ i. is_struck f (step channel i j)) =
        rw (eq-eqb channel 0 paid) refl in
        done (omega (arith, paid)) (rw (eq-eqb channel 0 paid, le-leb (i + j) J there) refl) free
        (λ one. omega (arith, many, counted, one))

    pub incurred_struck : channel ≡ 1 → i + j < J → is_struck f (step channel i j) ≡ false
        → (k : ℕ) → i ≢ k → k + j < J → is_struck f (step channel k j) ≡ false
        → (r ≡ refusal 0) × (session_state p t ≡ holds (kept_of without_it) start 0)
    unfolding is_step left_beside
    incurred_struck incurred there free k other also left =
        let many = two_left (J - j) i k (λ i. is_struck f (step channel i j)) (omega arith) (omega arith) other free left in
        let second : eqb channel 0 ≡ false = ne_eqb channel 0 (λ paid. omega (arith, paid, incurred)) in
        let counted : left_beside J (is_struck f) d ≡ left_of (J - j) (λ i. is_struck f (step channel i j)) = rw second refl in
        done (omega (arith, incurred)) (rw (second, le-leb (suc (i + j)) J there) refl) free
        (λ one. omega (arith, many, counted, one))
