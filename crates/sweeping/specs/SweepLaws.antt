-- The machine's outcome of a sweep, case by case: what the call shows of its answer. Each carries both halves of demand 3.
use Rattle.std.specs.Prelude.{ℕ, ◌≤◌, ◌<◌, ◌≡◌, Result, Ok, Err, Bool, false, not, cond, leb, ℤ}
use Rattle.std.proofs.Math.Path.{refl, ap}
use Rattle.std.proofs.Common.{sym, ◌∙◌}
use Rattle.std.proofs.Math.Bool.{true}
use Rattle.std.proofs.lemmas.Bool.{false≢true}
use mathlib.Core.List.{List}
use borrow.Author.Tests.{le-leb, lt-leb}
use Rattle.definitions.specs.Words.{within, part}
use Rattle.definitions.specs.Matrix as D
use Rattle.definitions.specs.Matrix.{passes}
use Rattle.definitions.specs.Strikes.{figures_left}
use Rattle.definitions.specs.Sweep.{Swept, sweeps, sweep_limit}
use Rattle.definitions.specs.Machine.{Answer, settled, going, refused, State, holds, Outcome, answers, sweep_call, swept_to}
use Rattle.layout.specs.declared.refusals.Reason.TheVariants as reason
use Rattle.layout.specs.declared.refusals.Reason.TheVariants.{NothingOpen, Spent}
use Rattle.layout.specs.declared.refusals.Refusal.{Refusal}
use Rattle.chain.specs.Arrays.{figures_of, mean_of}
use Rattle.holding.specs.State.{Held, Fits, state_held, state_of}
use Rattle.holding.proofs.StateLaws.{state_of_held, state_of_empty}
use Rattle.holding.proofs.Worth.{worth, rounded}
use Rattle.sweeping.specs.declared.Progress.{Progress}
use Rattle.sweeping.specs.declared.Progress.TheVariants.{Settled, Going}
use Rattle.sweeping.specs.Sweeps.{of_sweep, sweeps_to, Sweeps}

refused_settled : {number place total : ℕ} → refused number place ≡ settled total → ⊥
refused_settled e = cc

going_settled : {total after : ℕ} → going total ≡ settled after → ⊥
going_settled e = cc

run_refused : {p : Progress} {r : Refusal} → ◌≡◌ {A = Result Progress Refusal} (Ok p) (Err r) → ⊥
run_refused e = cc

module _ {F : D.Figures} {μ ν : List ℤ} {total after : ℕ} (e : ◌≡◌ {A = State D.Figures} (holds F μ total) (holds F ν after)) where
  same_mean : μ ≡ ν
  same_mean = cc

  same_total : total ≡ after
  same_total = cc

settled_same : {total after : ℕ} → settled total ≡ settled after → total ≡ after
settled_same e = cc

of_settled : (a : Result Progress Refusal) {after : ℕ} → of_sweep a ≡ settled after → a ≡ Ok (Settled after)
of_settled (Ok (Settled total)) e = ap (λ n. Ok (Settled n)) (settled_same e)
of_settled (Ok (Going total)) e = absurd (going_settled e)
of_settled (Err r) e = absurd (refused_settled e)

-- the mean that is held from now on decides the answer
module _ (F : D.Figures) (μ ν : List ℤ) (total n after : ℕ) where
  abbrev end : Swept
  end = sweeps F n μ total

  -- it is the mean that is held afterwards
  abbrev IsHeld : State D.Figures → Type 0
  IsHeld st = st ≡ holds F ν after

  abbrev kept : Answer → Outcome D.Figures
  kept = answers (holds F μ total)

  -- sweep's three tests
  abbrev swept : Bool → Bool → Bool → Outcome D.Figures
  swept b c d =
      cond b (kept (refused 12 0))
      (cond c (kept (settled total))
      (cond d (kept (refused 23 0)) (swept_to (λ G. G) F end)))

  settled_passes : (sweeps_to (holds F μ total) n).answer ≡ settled after → (sweeps_to (holds F μ total) n).state ≡ holds F ν after
      → passes F (part ν) ≡ true
  unfolding sweep_call
  settled_passes = by_cases (not (within 1 sweep_limit n)) (passes F (part μ)) (leb sweep_limit total) refl
    where
      held_then : {m : List ℤ} {t : ℕ} → passes F (part m) ≡ true → IsHeld (holds F m t) → passes F (part ν) ≡ true
      held_then e st = ap (λ m. passes F (part m)) (sym (same_mean st)) ∙ e

      at_end : (b : Bool) → passes F (part end.mean) ≡ b → cond b (settled end.swept) (going end.swept) ≡ settled after
          → IsHeld (holds F end.mean end.swept) → passes F (part ν) ≡ true
      at_end true e a st = held_then e st
      at_end false e a st = absurd (going_settled a)

      by_cases : (b c d : Bool) → passes F (part μ) ≡ c → (swept b c d).answer ≡ settled after → IsHeld (swept b c d).state
          → passes F (part ν) ≡ true
      by_cases true c d e a st = absurd (refused_settled a)
      by_cases false true d e a st = held_then e st
      by_cases false false true e a st = absurd (refused_settled a)
      by_cases false false false e a st = at_end (passes F (part end.mean)) refl a st

  passes_settled : within 1 sweep_limit n ≡ true → (sweeps_to (holds F μ total) n).state ≡ holds F ν after → passes F (part ν) ≡ true
      → (sweeps_to (holds F μ total) n).answer ≡ settled after
  unfolding sweep_call
  passes_settled w st p = rw w (by_cases (passes F (part μ)) (leb sweep_limit total) refl (rw w at st))
    where
      held_now : {m : List ℤ} {t : ℕ} → IsHeld (holds F m t) → passes F (part m) ≡ true
      held_now st = ap (λ m. passes F (part m)) (same_mean st) ∙ p

      by_cases : (c d : Bool) → passes F (part μ) ≡ c → IsHeld (swept false c d).state → (swept false c d).answer ≡ settled after
      by_cases true d e st = ap settled (same_total st)
      by_cases false true e st = absurd (false≢true (sym e ∙ held_now st))
      by_cases false false e st = rw (held_now st) (ap settled (same_total st))

module _ (s : Held) (n : ℕ) where
  sweeps_as : (r : Result Progress Refusal) (t : Held) → of_sweep r ≡ (sweeps_to (state_of s) n).answer
      → state_of t ≡ (sweeps_to (state_of s) n).state
      → ((e : Refusal) → r ≡ Err e → t ≡ s)
      → Sweeps s n r t
  sweeps_as r t a st same = record {
    answer = a;
    state = st;
    same = same;
    worth = λ f μ ν total after before then told.
        worth before ν (settled_passes (figures_left f) μ ν total n after
        (ap (λ x. (sweeps_to x n).answer) (sym before.state) ∙ sym a ∙ ap of_sweep told)
        (ap (λ x. (sweeps_to x n).state) (sym before.state) ∙ sym st ∙ then.state));
    rounded = λ f μ ν total after before then w near.
        of_settled r
        (a ∙ ap (λ x. (sweeps_to x n).answer) before.state
        ∙ passes_settled (figures_left f) μ ν total n after w
        (ap (λ x. (sweeps_to x n).state) (sym before.state) ∙ sym st ∙ then.state) (rounded before ν near));
  }

  pub sweeps_closed : ¬ Fits s → Sweeps s n (Err (record { reason = NothingOpen; place = 0 })) s
  unfolding sweep_call
  sweeps_closed h = let e = state_of_empty s h in sweeps_as _ _ (rw e refl) (rw e refl) (λ _ _. refl)

  module _ (h : Fits s) where
    abbrev F : D.Figures
    F = figures_of s.figures

    abbrev μ : List ℤ
    μ = mean_of s.figures.last s.mean

    is_open : state_of s ≡ state_held s
    is_open = state_of_held s h

    pub sweeps_outside : within 1 sweep_limit n ≡ false → Sweeps s n (Err (record { reason = reason.Sweeps; place = 0 })) s
    unfolding sweep_call
    sweeps_outside w = sweeps_as _ _ (rw (is_open, w) refl) (rw (is_open, w) refl) (λ _ _. refl)

    module _ (w : within 1 sweep_limit n ≡ true) where
      pub sweeps_settled : passes F (part μ) ≡ true → Sweeps s n (Ok (Settled s.total)) s
      unfolding sweep_call
      sweeps_settled p = sweeps_as _ _ (rw (is_open, w, p) refl) (rw (is_open, w, p) refl) (λ _ e. absurd (run_refused e))

      module _ (p : passes F (part μ) ≡ false) where
        pub sweeps_spent : sweep_limit ≤ s.total → Sweeps s n (Err (record { reason = Spent; place = 0 })) s
        unfolding sweep_call
        sweeps_spent most =
            let none_left = le-leb sweep_limit s.total most in
            sweeps_as _ _ (rw (is_open, w, p, none_left) refl) (rw (is_open, w, p, none_left) refl) (λ _ _. refl)

        module _ (more : s.total < sweep_limit) (t : Held) (ν : List ℤ) (after : state_of t ≡ holds F ν t.total)
            (end : sweeps F n μ s.total ≡ record { mean = ν; swept = t.total }) where
          some_left : leb sweep_limit s.total ≡ false
          some_left = lt-leb sweep_limit s.total more

          pub sweeps_done : passes F (part ν) ≡ true → Sweeps s n (Ok (Settled t.total)) t
          unfolding sweep_call
          sweeps_done q =
              sweeps_as _ _ (rw (is_open, w, p, some_left, end, q) refl) (rw (is_open, w, p, some_left, end, after) refl)
              (λ _ e. absurd (run_refused e))

          pub sweeps_going : passes F (part ν) ≡ false → Sweeps s n (Ok (Going t.total)) t
          unfolding sweep_call
          sweeps_going q =
              sweeps_as _ _ (rw (is_open, w, p, some_left, end, q) refl) (rw (is_open, w, p, some_left, end, after) refl)
              (λ _ e. absurd (run_refused e))
