-- The machine's outcome of a call that writes, case by case: what the call shows of its answer. Each carries what the mean is worth.
use Rattle.std.specs.Prelude.{ℕ, ◌≤◌, ◌<◌, ◌≡◌, Result, Ok, Err, IsOk, Bool, not, cond, List, ◌++◌, ltb, ℤ, length, drop}
use Rattle.std.proofs.Math.Path.{refl}
use Rattle.std.proofs.Common.{sym, ap, ◌∙◌, arith, inl, inr}
use Rattle.std.proofs.Math.Bool.{true, false}
use borrow.Author.Tests.{lt-ltb, le-ltb}
use Rattle.definitions.specs.Words.{part}
use Rattle.definitions.specs.Layout.{Bytes}
use Rattle.definitions.specs.Matrix as D
use Rattle.definitions.specs.Matrix.{passes}
use Rattle.definitions.specs.Strikes.{figures_left}
use Rattle.definitions.specs.Machine.{Answer, written, refused, holds, Outcome, writes, write_call}
use Rattle.layout.specs.declared.refusals.Reason.TheVariants.{Buffer, NothingOpen, NotPassed}
use Rattle.layout.specs.declared.refusals.Refusal.{Refusal}
use Rattle.chain.specs.Arrays.{figures_of, mean_of}
use Rattle.holding.specs.State.{Held, Fits, state_held, state_of}
use Rattle.holding.proofs.StateLaws.{state_of_held, state_of_empty}
use Rattle.holding.proofs.Worth.{worth}
use Rattle.holding.specs.Passing.{Refused}
use Rattle.writing.specs.Writes.{of_write, Text, writes_to, Writes}

pub refused_written : {number place : ℕ} → refused number place ≡ written → ⊥
refused_written e = let z : ◌≡◌ {A = ℕ} 0 1 = cc in omega arith

-- written only when the mean that is held passes
module _ (size : ℕ → ℕ) (text : Text) (F : D.Figures) (μ : List ℤ) (total : ℕ) (b : Bytes) where
  abbrev answered : Answer → Bytes → Outcome D.Figures
  answered = writes (holds F μ total)

  -- the two tests
  abbrev tested : Bool → Bool → Outcome D.Figures
  tested c d =
      cond (not c) (answered (refused 24 0) b)
      (cond d (answered (refused 13 0) b) (answered written (text F μ ++ drop (size F.last) b)))

  written_passes : (writes_to size text (holds F μ total) b).answer ≡ written → passes F (part μ) ≡ true
  unfolding write_call
  written_passes = by_cases (passes F (part μ)) refl
    where
      by_cases : (c : Bool) → passes F (part μ) ≡ c → (tested c (ltb (length b) (size F.last))).answer ≡ written
          → passes F (part μ) ≡ true
      by_cases true e a = e
      by_cases false e a = absurd (refused_written a)

pub wrote : (r : Result Unit Refusal) → IsOk r → of_write r ≡ written
wrote (Ok done) e = refl
wrote (Err r) e = cc

module _ (size : ℕ → ℕ) (text : Text) (s : Held) (before : Bytes) where
  writes_as : (r : Result Unit Refusal) (after : Bytes) → of_write r ≡ (writes_to size text (state_of s) before).answer
      → after ≡ (writes_to size text (state_of s) before).buffer → Writes size text s before r after
  writes_as r after a b = record {
    answer = a;
    buffer = b;
    worth = λ f μ total open-file told.
        worth open-file μ
        (written_passes size text (figures_left f) μ total before
        (ap (λ x. (writes_to size text x before).answer) (sym open-file.state) ∙ sym a ∙ wrote r told));
  }

  pub writes_closed : ¬ Fits s → Writes size text s before (Err (record { reason = NothingOpen; place = 0 })) before
  unfolding write_call
  writes_closed h = let e = state_of_empty s h in writes_as _ before (rw e refl) (rw e refl)

  module _ (h : Fits s) where
    abbrev F : D.Figures
    F = figures_of s.figures

    abbrev μ : List ℤ
    μ = mean_of s.figures.last s.mean

    is_open : state_of s ≡ state_held s
    is_open = state_of_held s h

    pub writes_failing : passes F (part μ) ≡ false → Writes size text s before (Err (record { reason = NotPassed; place = 0 })) before
    unfolding write_call
    writes_failing p = writes_as _ before (rw (is_open, p) refl) (rw (is_open, p) refl)

    module _ (p : passes F (part μ) ≡ true) where
      pub writes_short : length before < size s.figures.last → Writes size text s before (Err (record { reason = Buffer; place = 0 })) before
      unfolding write_call figures_of
      writes_short short = let l = lt-ltb _ _ short in writes_as _ before (rw (is_open, p, l) refl) (rw (is_open, p, l) refl)

      pub writes_written : size s.figures.last ≤ length before
          → Writes size text s before (Ok tt) (text F μ ++ drop (size s.figures.last) before)
      unfolding write_call figures_of
      writes_written long = let l = le-ltb _ _ long in writes_as _ _ (rw (is_open, p, l) refl) (rw (is_open, p, l) refl)

  -- what 21 and 24 refuse, whatever was to be written
  pub writes_refused : (r : Refusal) → Refused s r → Writes size text s before (Err r) before
  writes_refused r (inl (is-21, nothing)) = rw is-21 (writes_closed nothing)
  writes_refused r (inr (is-24, open-file, fails)) = rw is-24 (writes_failing open-file fails)
