-- The machine's outcome of a strike, case by case: what the call shows of its answer. Whatever stands in the session, what is held
-- afterwards are the figures of what is left, and they fit.
use Rattle.std.specs.Prelude.{ℕ, ◌+◌, ◌*◌, ◌≤◌, ◌<◌, ◌≡◌, refl, Ok, Err, Bool, ◌||◌, List, ℤ, length, set}
use Rattle.std.proofs.Common.{sym, ap, ap₂, ◌∙◌, arith}
use Rattle.std.proofs.Math.Path.{subst}
use Rattle.definitions.specs.Words.{part}
use Rattle.definitions.specs.Layout.{parts, psi_index}
use Rattle.definitions.specs.Refusals.{clear, refuses}
use Rattle.definitions.specs.Observations.{Chain}
use Rattle.definitions.specs.Matrix as D
use Rattle.definitions.specs.Sweep.{bring_back}
use Rattle.definitions.specs.Strikes.{Step, step, same_step, strike_check, EachLeft, without}
use Rattle.definitions.specs.Machine.{strike_call}
use Rattle.definitions.specs.Kept.{chain_in, channel_of, column_of, step_of, steps_of, part_of_step, marks_of, marked}
use Rattle.laws.proofs.Marks.{steps_phi, steps_psi, steps_few}
use Rattle.laws.proofs.Ranks.{part_by_index_phi, part_by_index_psi}
use Rattle.laws.proofs.StepLaws.{bring_back_inside}
use Rattle.laws.proofs.StruckSteps.{strikable, strike_leaves, check_cong}
use Rattle.laws.proofs.StruckChain.{left_bounded, left_owned}
use Rattle.laws.proofs.Tables.{tab_cong}
use Rattle.layout.specs.declared.refusals.Reason.TheVariants.{NothingOpen}
use Rattle.layout.specs.declared.refusals.Refusal.{Refusal}
use Rattle.layout.specs.Refusals.{number_of}
use Rattle.observations.specs.declared.Observations.{Observations}
use Rattle.observations.specs.Arrays.{mean_at, mark_at, observations_at, observed_in, struck_in}
use Rattle.observations.specs.Strikes.{LeftIn}
use Rattle.observations.specs.Inside.{MarksInside}
use Rattle.observations.proofs.MarkLaws.{same_place, marked_at, kept_left, inside_at, mark_set, marks_kept}
use Rattle.observations.proofs.KeptLaws.{kept_bounded, kept_counted, tick_mean, holds_kept, kept_still}
use Rattle.chain.specs.Arrays.{figures_at, figures_of, mean_of}
use Rattle.chain.specs.Fitting.{Fitting}
use Rattle.chain.proofs.AcceptedFits.{chain_fits}
use Rattle.holding.specs.State.{Held, Fits, held_at}
use Rattle.holding.proofs.StateLaws.{state_of_held, state_of_empty}
use Rattle.striking.specs.Strikes.{Strikes}
use Rattle.striking.specs.Steps.{OfStep, mark_of}
use Rattle.striking.proofs.StepLaws.{placed, mark_inside}
use Rattle.striking.specs.Anew.{Anew}

module _ (d : Step) (s : Held) (o : Observations) where
  pub strikes_closed : ¬ Fits s → Strikes d s o (Err (record { reason = NothingOpen; place = 0 })) s o
  unfolding strike_call
  strikes_closed h = let e = state_of_empty s h in record {
    answer = rw e refl;
    state = rw e refl;
    same = λ refusal _. (refl, refl);
  }

  abbrev J : ℕ
  J = s.figures.last

  abbrev struck : Step → Bool
  struck = marked J (struck_in J o)

  pub strikes_refused : Fits s → (r : Refusal)
      → strike_check s.figures.last (marked s.figures.last (struck_in s.figures.last o)) d ≡ refuses (number_of r.reason) r.place
      → Strikes d s o (Err r) s o
  unfolding strike_call figures_of
  strikes_refused h r c = let e = state_of_held s h in record {
    answer = rw (e, c) refl;
    state = rw (e, c) refl;
    same = λ _ _. (refl, refl);
  }

  abbrev more : Step → Bool
  more t = struck t || same_step d t

  abbrev left : Chain
  left = without more (chain_in J (observed_in J o))

  strikes_done : Fits s → strike_check J struck d ≡ clear → (t : Held) (p : Observations) → Fits t
      → figures_of t.figures ≡ D.figures_from left s.figures.closeness → observed_in J p ≡ observed_in J o
      → struck_in J p ≡ marks_of J more → mean_of t.figures.last t.mean ≡ (observed_in J o).prior_means → t.total ≡ 0
      → Strikes d s o (Ok tt) t p
  unfolding strike_call figures_of D.figures_from
  strikes_done h c t p fits figures observed marks mean total =
      let e = state_of_held s h in
      let last = ap (λ (F : D.Figures). F.last) figures in
      record {
        answer = rw (e, c) refl;
        state = rw (e, c, state_of_held t fits, mean, total, figures, last, observed, marks) refl;
        same = λ refusal refused. cc;
      }

-- ---- a session that is open, and its marks inside their limits

module _ (s : Held) (o : Observations) (h : Fits s) {counted marks : List ℕ} (counts : LeftIn o.struck s.figures.last counted)
    (m : MarksInside counted o.struck marks) where
  abbrev N : ℕ
  N = s.figures.last

  abbrev struck_before : Step → Bool
  struck_before = marked N (struck_in N o)

  years : N ≤ 15
  unfolding figures_of
  years = h.fitting.years

  mark_agrees : (k i : ℕ) → k < parts N → i < steps_of N k → mark_at marks k i ≡ struck_before (step_of N k i)
  mark_agrees k i below there = inside_at years counts m k i below there ∙ sym (marked_at N o k i below there)

  agrees_x : (i j : ℕ) → i + j ≤ N → mark_of N marks (step 0 i j) ≡ struck_before (step 0 i j)
  agrees_x i j there =
      mark_agrees j i (omega arith) (rw (steps_phi N j (omega arith)) (omega arith))
      ∙ ap (λ a. struck_before (step (channel_of a) i (column_of a))) (part_by_index_phi N j (omega arith))

  agrees_z : (i j : ℕ) → i + j < N → mark_of N marks (step 1 i j) ≡ struck_before (step 1 i j)
  agrees_z i j there =
      mark_agrees (psi_index N j) i (omega arith) (rw (steps_psi N (psi_index N j) (omega arith)) (omega arith))
      ∙ ap (λ a. struck_before (step (channel_of a) i (column_of a))) (part_by_index_psi N j)

  -- the check by the marks is the machine's
  pub check_agrees : (d : Step)
      → strike_check s.figures.last (mark_of s.figures.last marks) d
      ≡ strike_check s.figures.last (marked s.figures.last (struck_in s.figures.last o)) d
  check_agrees d = check_cong N (mark_of N marks) struck_before agrees_x agrees_z d

  module _ (c i j : ℕ) (there : OfStep s.figures.last c i j)
      (passed : strike_check s.figures.last (marked s.figures.last (struck_in s.figures.last o)) (step c i j) ≡ clear) where
    abbrev k : ℕ
    k = part_of_step N (step c i j)

    abbrev marked_now : List ℕ
    marked_now = set marks (16 * k + i) 1

    abbrev struck_now : Step → Bool
    struck_now t = struck_before t || same_step (step c i j) t

    -- the step is marked, and no other more
    are : (l n : ℕ) → l < parts N → n < steps_of N l → mark_at marked_now l n ≡ struck_now (step_of N l n)
    are l n below within-part =
        let p = placed N c i j there in
        let fits : 16 * k + i < length marks = omega (arith, mark_inside there, m.filled.long) in
        mark_set marks k i l n fits (omega (arith, p.in_years, years)) (omega (arith, within-part, steps_few N l years))
        ∙ ap₂ ◌||◌ (mark_agrees l n below within-part)
        (sym (same_place N k i l n p.below below) ∙ ap (λ t. same_step t (step_of N l n)) p.is)

    left_now : EachLeft N struck_now
    left_now =
        let free = strikable N struck_before (step c i j) passed in
        strike_leaves N struck_before (step c i j) (kept_left N o) free.there free.unstruck free.another

    module _ {own weights : List ℕ} {A b mean ticks : List ℤ}
        (a : Anew N o.ticks o.weights marked_now own A b mean ticks weights) where
      abbrev e : ℕ
      e = s.figures.closeness

      abbrev after : Held
      after = held_at N e 0 own A b mean

      abbrev observed : Observations
      observed = observations_at ticks weights o.variances marked_now

      abbrev remains : Chain
      remains = without struck_now (chain_in N (observed_in N o))

      figures_are : figures_of (figures_at N e own A b) ≡ D.figures_from remains e
      figures_are = a.figures_are.are remains refl (holds_kept N years o a.ticks_are a.weights_are marked_now struck_now are) e

      part_is : (l : ℕ) → l < parts N → part mean l ≡ bring_back (mean_at o.ticks l)
      part_is l below =
          a.means_are.filled.front l below ∙ tick_mean N years o a.ticks_are a.weights_are l (omega (arith, below, years))

      after_fits : Fits after
      unfolding figures_of
      after_fits = record {
        holding = h.holding;
        fitting = subst Fitting (sym figures_are)
            (chain_fits remains e (left_bounded (chain_in N (observed_in N o)) struck_now (kept_bounded N o years))
            (left_owned (chain_in N (observed_in N o)) struck_now left_now (kept_counted N o)) h.fitting.close);
        inside = record { small = λ l below. rw (part_is l below) (bring_back_inside (mean_at o.ticks l)) };
        few = omega arith;
      }

      mean_is : mean_of N mean ≡ (observed_in N o).prior_means
      unfolding observed_in
      mean_is = tab_cong 0 (parts N) (λ l _ to. part_is l (omega arith))

      pub done : Strikes (step c i j) s o (Ok tt) (held_at s.figures.last s.figures.closeness 0 own A b mean)
          (observations_at ticks weights o.variances (set marks (16 * part_of_step s.figures.last (step c i j) + i) 1))
      done =
          strikes_done (step c i j) s o h passed after observed after_fits figures_are
          (kept_still N years o a.ticks_are a.weights_are marked_now) (marks_kept N observed struck_now left_now are) mean_is refl
