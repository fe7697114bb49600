-- The sweeps of a call on a session that fits are the machine's.
use Rattle.std.specs.Prelude.{ℕ, ◌≤◌, ◌<◌, ◌≡◌, refl, Bool, true, false, List, ℤ, Ok, Err}
use Rattle.std.proofs.Common.{sym, ap, subst, ◌∙◌}
use Rattle.definitions.specs.Words.{part, within}
use Rattle.definitions.specs.Matrix as D
use Rattle.definitions.specs.Matrix.{passes}
use Rattle.definitions.specs.Sweep.{sweeps, sweep_limit}
use Rattle.laws.proofs.ReachedStates.{sweeps_total}
use Rattle.layout.specs.CheckLaws.{within_yes}
use Rattle.layout.specs.declared.refusals.Reason.TheVariants.{Spent}
use Rattle.chain.specs.Arrays.{figures_of, mean_of}
use Rattle.chain.specs.Judge.{Passes}
use Rattle.steps.specs.declared.Working.{Working}
use Rattle.steps.specs.declared.sweep.Swept.{Swept}
use Rattle.steps.specs.Sweeps.{Holds, SweptTo, passes_is}
use Rattle.holding.specs.State.{Held, Fits}
use Rattle.holding.proofs.StateLaws.{state_of_held}
use Rattle.sweeping.specs.declared.Progress.TheVariants.{Settled, Going}
use Rattle.sweeping.specs.Sweeps.{Sweeps}
use Rattle.sweeping.specs.SweepLaws.{sweeps_settled, sweeps_spent, sweeps_done, sweeps_going}

-- a sweep of an open file, with a number inside its limits and the mean that is held with its residues
pub record OpenSweep (s : Held) (w : Working) (n : ℕ) : Type 0 where
  pub fits : Fits s
  pub mean : w.mean ≡ s.mean
  pub holds_mean : Holds s.figures w
  pub from : 1 ≤ n
  pub to : n ≤ sweep_limit

module _ (s : Held) (n : ℕ) where
  abbrev F : D.Figures
  F = figures_of s.figures

  abbrev μ : List ℤ
  μ = mean_of s.figures.last s.mean

  module _ {w : Working} (h : OpenSweep s w n) {p : Bool}
      (tested : Passes s.figures.last s.figures.closeness s.figures.own w.residues p) where
    number_inside : within 1 sweep_limit n ≡ true
    number_inside = within_yes refl h.from h.to

    -- the mean that is held passes or fails as its residues do
    held_passes_lem : passes F (part μ) ≡ p
    held_passes_lem =
        ap (λ m. passes F (part (mean_of s.figures.last m))) (sym h.mean)
        ∙ sym (passes_is s.figures w h.holds_mean tested)

    pub settled : p ≡ true → Sweeps s n (Ok (Settled s.total)) s
    settled e = sweeps_settled s n h.fits number_inside (held_passes_lem ∙ e)

    pub spent : p ≡ false → sweep_limit ≤ s.total → Sweeps s n (Err (record { reason = Spent; place = 0 })) s
    spent e most = sweeps_spent s n h.fits number_inside (held_passes_lem ∙ e) most

    -- the sweeps of a mean that does not pass, while some are left
    module _ (e : p ≡ false) (more : s.total < sweep_limit) {r : Swept} (swept : SweptTo s.figures w s.total n r) where
      abbrev after : Held
      after = record { figures = s.figures; mean = r.working.mean; total = r.total }

      abbrev ν : List ℤ
      ν = mean_of s.figures.last r.working.mean

      end : sweeps F n μ s.total ≡ record { mean = ν; swept = r.total }
      end = ap (λ m. sweeps F n (mean_of s.figures.last m) s.total) (sym h.mean) ∙ sym swept.is

      after_fits : Fits after
      after_fits = record {
        holding = h.fits.holding;
        fitting = h.fits.fitting;
        inside = swept.holds.inside;
        few = subst (λ t. t ≤ sweep_limit) (ap (λ x. x.swept) end) (sweeps_total F n μ s.total h.fits.few);
      }

      pub done : r.passes ≡ true → Sweeps s n (Ok (Settled r.total)) after
      done passing =
          sweeps_done s n h.fits number_inside (held_passes_lem ∙ e) more after ν (state_of_held after after_fits) end
          (sym swept.passing ∙ passing)

      pub still_going : r.passes ≡ false → Sweeps s n (Ok (Going r.total)) after
      still_going failing =
          sweeps_going s n h.fits number_inside (held_passes_lem ∙ e) more after ν (state_of_held after after_fits) end
          (sym swept.passing ∙ failing)
