-- The arrays of an accepted file: inside their limits, they hold its chain and keep its observations, and no step is struck.
use Prim.Native.Nat.{ℕ, zero, suc, ◌+◌, ◌*◌, ◌-◌, ◌^◌, ◌≤◌, ◌<◌, min}
use Rattle.std.specs.Prelude.{◌≡◌, refl, Bool, true, false, not, cond, List, ℤ, nat_abs, replicate, eqb}
use Rattle.std.proofs.Math.Path.{sym, ap}
use Rattle.std.proofs.Common.{ap₂, ◌∙◌}
use native.Mathlib.Omega.{arith}
use Rattle.std.proofs.Math.IntN.{pos, ◌-ℤ◌}
use Rattle.definitions.specs.Words.{part}
use Rattle.definitions.specs.Layout.{Bytes, last_year, parts, psi_index, cells, row_start, variance_of, amount, paid, incurred}
use Rattle.definitions.specs.Weight.{weight}
use Rattle.definitions.specs.Refusals.{part_limit}
use Rattle.definitions.specs.Observations.{chain_of, log_of, paid_step, incurred_step, last_ratio, ratio_variance}
use Rattle.definitions.specs.Sweep.{bring_back}
use Rattle.definitions.specs.Kept.{observed_of, paid_step_in, steps_of, marks_of}
use Rattle.laws.specs.Accepted.{AcceptedFile}
use Rattle.laws.proofs.Cells.{cell_below}
use Rattle.laws.specs.Chains.{observed_limit}
use Rattle.laws.proofs.FileChain.{logarithm_limit}
use Rattle.laws.proofs.Filled.{empty_at}
use Rattle.laws.proofs.FileWeights.{part_from, part_to, prior_to, g_to}
use Rattle.laws.proofs.StepLaws.{bring_back_of_inside}
use Rattle.laws.proofs.Tables.{tab_cong}
use Rattle.observations.specs.Arrays.{at, mark_at, unmarked, brought_within, log_within, observations_at, observed_in, struck_at, struck_in}
use Rattle.observations.specs.HoldsChain.{HoldsChain}
use Rattle.observations.specs.Reading.{PartsTo, Parts, Observes}
use Rattle.observations.specs.Ratios.{ratio_from, OfVariances, RatiosWeighed}
use Rattle.observations.proofs.RatioLaws.{ratio_from_cong}

module _ (f : Bytes) (h : AcceptedFile f) where
  abbrev J : ℕ
  J = last_year f

  -- ---- the ratios

  module _ {ticks : List ℤ} {weights variances : List ℕ} (p : Parts f ticks weights variances) where
    pub of_variances : OfVariances weights variances J
    of_variances = record {
      few = h.years.to;
      long = p.all.weights_long;
      small = λ k below. rw (p.all.variances_are k below) (h.variances k below).to;
    }

    ratio_is : (d : ℕ) → ratio_from J (at variances) d ≡ ratio_variance f d
    unfolding ratio_from ratio_variance
    ratio_is d = ratio_from_cong J (at variances) (variance_of f) p.all.variances_are d

    pub observed : {after : List ℕ} → RatiosWeighed variances J weights after → Observes f ticks after variances (replicate 496 0)
    observed r = record {
      parts_are = record {
        all = record {
          logarithms = p.all.logarithms;
          weights_long = r.all.long;
          variances_long = p.all.variances_long;
          variances_are = p.all.variances_are;
          weights_are = λ k below. r.all.earlier k (omega (arith, h.years.to)) ∙ p.all.weights_are k below;
          priors_are = λ k below. r.all.earlier (31 + k) (omega (arith, h.years.to)) ∙ p.all.priors_are k below;
          means_are = p.all.means_are;
        };
      };
      ratios_are = λ d below. r.all.there d (omega arith) below ∙ ap weight (ratio_is d);
      unstruck = λ k i. ap (λ n. not (eqb n 0)) (empty_at 496 (16 * k + i) 0);
    }

  -- ---- what is read

  module _ {ticks : List ℤ} {weights variances struck : List ℕ} (o : Observes f ticks weights variances struck) where
    abbrev read : PartsTo (parts J) f ticks weights variances
    read = o.parts_are.all

    paid_log : (i j : ℕ) → i + j ≤ J → part ticks (row_start J i + j) ≡ log_of (paid f i j)
    paid_log i j there = read.logarithms.all.there (row_start J i + j) (omega (arith, cell_below J i j there))

    incurred_log : (i j : ℕ) → i + j ≤ J → part ticks (cells J + (row_start J i + j)) ≡ log_of (incurred f i j)
    incurred_log i j there = read.logarithms.all.there (cells J + (row_start J i + j)) (omega (arith, cell_below J i j there))

    x_is : (i j : ℕ) → i + j ≤ J → paid_step f i j ≡ paid_step_in ticks J i j
    unfolding paid_step paid_step_in
    x_is i zero there = sym (paid_log i 0 there)
    x_is i (suc j) there = sym (ap₂ ◌-ℤ◌ (paid_log i (suc j) there) (paid_log i j (omega arith)))

    -- an observation that is not struck has its weight
    counts : (k i : ℕ) → k < parts J → weight (variance_of f k) ≡ cond (mark_at struck k i) 0 (at weights k)
    counts k i below = sym (read.weights_are k below) ∙ ap (λ t. cond t 0 (at weights k)) (sym (o.unstruck k i))

    pub holds_chain : HoldsChain (chain_of f) ticks weights struck
    unfolding incurred_step last_ratio
    holds_chain = record {
      p = λ i j there. counts j i (omega arith);
      q = λ i j there. counts (psi_index J j) i (omega arith);
      s = λ j below. sym (read.priors_are j (omega arith));
      t = λ j below. sym (read.priors_are (psi_index J j) (omega arith));
      g = λ d below. sym (o.ratios_are d below);
      x = x_is;
      z = λ i j there. sym (ap₂ ◌-ℤ◌ (incurred_log i (j + 1) (omega arith)) (incurred_log i j (omega arith)));
      y = λ i below. sym (ap₂ ◌-ℤ◌ (incurred_log i (J - i) (omega arith)) (paid_log i (J - i) (omega arith)));
      prior_Φ = λ j below. sym (read.means_are j (omega arith));
      prior_Ψ = λ j below. sym (read.means_are (psi_index J j) (omega arith));
    }

    -- ---- what is kept

    -- a number inside its limits counts as it is
    inside : (lo hi v : ℕ) → lo ≤ v → v ≤ hi → brought_within lo hi v ≡ v
    inside lo hi v from to = omega arith

    kept_as : (lo hi : ℕ) {v w : ℕ} → v ≡ w → lo ≤ w → w ≤ hi → brought_within lo hi v ≡ w
    kept_as lo hi {v} {w} e from to = ap (brought_within lo hi) e ∙ inside lo hi w from to

    ticks_as : {z w : ℤ} → z ≡ w → nat_abs w ≤ part_limit → bring_back z ≡ w
    ticks_as {z} {w} e small = ap bring_back e ∙ bring_back_of_inside w small

    logs_as : {z : ℤ} {n : ℕ} → z ≡ pos n → n ≤ observed_limit → log_within z ≡ pos n
    unfolding log_within
    logs_as {z} {n} e small = ap log_within e ∙ ap pos (least observed_limit n small)
      where
        least : (m n : ℕ) → n ≤ m → min m n ≡ n
        least m n few = omega arith

    pub kept : observed_in J (observations_at ticks weights variances struck) ≡ observed_of f
    unfolding observed_in
    kept = λ i. record {
      logarithms = tab_cong 0 (2 * cells J) (λ c _ to. logs_as (read.logarithms.all.there c (omega arith))
          (logarithm_limit (amount f c) (h.amounts c (omega arith)))) i;
      variances = tab_cong 0 (parts J) (λ k _ to. let v = h.variances k (omega arith) in
          kept_as (2 ^ 18) (2 ^ 40) (read.variances_are k (omega arith)) v.from v.to) i;
      weights = tab_cong 0 (parts J) (λ k _ to. kept_as 1 (2 ^ 28) (read.weights_are k (omega arith))
          (part_from f h k (omega arith)) (part_to f h k (omega arith))) i;
      prior_weights = tab_cong 0 (parts J) (λ k _ to. kept_as 0 (2 ^ 28) (read.priors_are k (omega arith))
          (omega arith) (prior_to f h k (omega arith))) i;
      ratio_weights = tab_cong 0 J (λ d _ to. kept_as 0 (2 ^ 27) (o.ratios_are d (omega arith)) (omega arith) (g_to f h d (omega arith))) i;
      prior_means = tab_cong 0 (parts J) (λ k _ to. ticks_as (read.means_are k (omega arith)) (h.prior_means_lem k (omega arith))) i;
    }

    none_struck : (k i : ℕ) → struck_at J struck k i ≡ false
    none_struck k i =
        ap (cond (eqb (unmarked struck k (steps_of J k)) 0) false) (o.unstruck k i)
        ∙ either (eqb (unmarked struck k (steps_of J k)) 0)
      where
        either : (t : Bool) → cond t false false ≡ false
        either true = refl
        either false = refl

    pub none_kept : struck_in J (observations_at ticks weights variances struck) ≡ marks_of J (λ s. false)
    unfolding struck_in marks_of
    none_kept = tab_cong 0 (parts J) (λ k _ _. tab_cong 0 (steps_of J k) (λ i _ _. none_struck k i))
