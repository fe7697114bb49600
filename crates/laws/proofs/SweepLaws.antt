-- Where the chain is carried, no step of a sweep raises the loss, and so no sweep does; a swept mean stays inside the limits.
use Prim.Native.Nat.{ℕ, zero, suc, ◌+◌, ◌≤◌, ◌<◌}
use Rattle.std.specs.Prelude.{◌≡◌, ◌≢◌, List, [], ◌∷◌, Bool, cond, ◌||◌, ℤ, pos, nat_abs, ◌+ℤ◌, ◌-ℤ◌, ◌*ℤ◌, length, ◌≤ℤ◌}
use Rattle.std.proofs.Common.{sym, ap, ap₂, ◌∙◌, subst}
use Rattle.std.proofs.Math.Bool.{true, false}
use native.Mathlib.Omega.{arith}
use Rattle.std.proofs.Math.Dec.{leb}
use Rattle.std.specs.Int.Signed.{≤ℤ_refl}
use Rattle.integers.specs.Linear.{linear, zarith}
use Rattle.integers.specs.Order.{≤ℤ_trans}
use Rattle.integers.specs.Solver.{ring, ◌⊞◌, ◌⊟◌, ◌⊠◌, num, ◌≐◌}
use Rattle.integers.specs.Sum.{sum, sum_cong, sum-+}
use Rattle.integers.specs.SumRange.{sum_one}
use Rattle.definitions.specs.Words.{part}
use Rattle.definitions.specs.Layout.{parts}
use Rattle.definitions.specs.Loss.{Vector, loss}
use Rattle.definitions.specs.Refusals.{part_limit}
use Rattle.definitions.specs.Observations.{Chain}
use Rattle.definitions.specs.Matrix.{residue_times, Figures, figures_from, entry, residue, passes}
use Rattle.definitions.specs.Sweep.{change, step, sweep_from, one_sweep, sweeps, sweep_limit}
use Rattle.laws.specs.Chains.{Carried}
use Rattle.laws.proofs.Diagonal.{diagonal_positive}
use Rattle.laws.proofs.Judged.{entry_of_chain, residue_of_chain}
use Rattle.laws.proofs.LossForm.{loss_is_form}
use Rattle.laws.proofs.PrecisionMatrix.{residue_is_form}
use Rattle.laws.specs.PrecisionMatrix.{loss_form}
use Rattle.laws.specs.Quadratic.{Form}
use Rattle.laws.proofs.Quadratic.{form_loss, form_residue, apart, along, own_squares, combined_squares, expansion, along_apart}
use Rattle.laws.proofs.StepLaws.{added, moved_falls, step_at_lem, step_elsewhere, step_length, step_inside, step_residues}

-- the losses of two whole means differ by the sum of their residues along what they are apart
pub loss_difference : (c : Chain) (u μ : Vector)
    → loss c u ≡ loss c μ +ℤ sum (parts c.last) (λ k. (residue_times c 1 μ k +ℤ residue_times c 1 u k) *ℤ (u k -ℤ μ k))
loss_difference c u μ =
    loss_is_form c 1 u
    ∙ expansion q (pos 1) u μ
    ∙ ring (form_loss q (pos 1) μ ∷ here ∷ (own_squares q w +ℤ combined_squares q w) ∷ [])
    (λ l a s. num 1 ⊠ num 1 ⊠ l ⊞ num 2 ⊠ num 1 ⊠ a ⊞ s ≐ l ⊞ (a ⊞ (num 1 ⊠ a ⊞ s))) tt
    ∙ ap₂ (λ l s. l +ℤ (here +ℤ s)) (sym (loss_is_form c 1 μ)) (sym (along_apart q (pos 1) u μ))
    ∙ ap (λ s. loss c μ +ℤ s) (sym (sum-+ n (λ k. r μ k *ℤ w k) (λ k. r u k *ℤ w k)) ∙ sum_cong n at_part)
  where
    q : Form
    q = loss_form c

    n : ℕ
    n = parts c.last

    w : Vector
    w = apart q (pos 1) u μ

    r : Vector → ℕ → ℤ
    r = form_residue q (pos 1)

    here : ℤ
    here = along q μ w

    at_part : (k : ℕ) → k < n → r μ k *ℤ w k +ℤ r u k *ℤ w k ≡ (residue_times c 1 μ k +ℤ residue_times c 1 u k) *ℤ (u k -ℤ μ k)
    at_part k below =
        ring (r μ k ∷ r u k ∷ u k ∷ μ k ∷ []) (λ r s u v. r ⊠ (u ⊟ num 1 ⊠ v) ⊞ s ⊠ (u ⊟ num 1 ⊠ v) ≐ (r ⊞ s) ⊠ (u ⊟ v)) tt
        ∙ ap₂ (λ r s. (r +ℤ s) *ℤ (u k -ℤ μ k)) (sym (residue_is_form c 1 μ k below)) (sym (residue_is_form c 1 u k below))

-- a mean for a J: its parts, each inside the limits
pub record MeanOf (J : ℕ) (μ : List ℤ) : Type 0 where
  pub whole : length μ ≡ parts J
  pub inside : (l : ℕ) → nat_abs (part μ l) ≤ part_limit

module _ (c : Chain) (e : ℕ) (h : Carried c) where
  abbrev F : Figures
  F = figures_from c e

  abbrev J : ℕ
  J = c.last

  diagonal_at_least_one : (k : ℕ) → k < parts J → pos 1 ≤ℤ entry F k k
  diagonal_at_least_one k below =
      subst (λ z. pos 1 ≤ℤ z) (sym (entry_of_chain c e k k below below)) (diagonal_positive c h k below)

  module _ (μ : List ℤ) (k : ℕ) (m : MeanOf J μ) (below : k < parts J) where
    there : k < length μ
    there = subst (λ n. k < n) (sym m.whole) below

    in_figures : k < parts F.last
    unfolding figures_from
    in_figures = below

    -- the mean after the step, and what the step adds to part k
    abbrev ν : List ℤ
    ν = step F k μ

    abbrev δ : ℤ
    δ = added F μ k in_figures there

    pub step_mean : MeanOf J ν
    step_mean = record { whole = step_length F μ k in_figures there ∙ m.whole; inside = step_inside F μ k in_figures there m.inside }

    -- what part l adds to the loss
    abbrev adds : ℕ → ℤ
    adds l = (residue_times c 1 (part μ) l +ℤ residue_times c 1 (part ν) l) *ℤ (part ν l -ℤ part μ l)

    elsewhere : (l : ℕ) → l ≢ k → adds l ≡ pos 0
    elsewhere l away =
        let r : ℤ = residue_times c 1 (part μ) l in
        let s : ℤ = residue_times c 1 (part ν) l in
        ap (λ v. (r +ℤ s) *ℤ (v -ℤ part μ l)) (step_elsewhere F μ k in_figures there l away)
        ∙ ring (r ∷ s ∷ part μ l ∷ []) (λ r s u. (r ⊞ s) ⊠ (u ⊟ u) ≐ num 0) tt

    here : adds k ≡ δ *ℤ (pos 2 *ℤ residue F (part μ) k +ℤ entry F k k *ℤ δ)
    here =
        let before = sym (residue_of_chain c e (part μ) k below) in
        let after = sym (residue_of_chain c e (part ν) k below) ∙ step_residues F μ k in_figures there k in
        ap₂ (λ r v. r *ℤ (v -ℤ part μ k)) (ap₂ ◌+ℤ◌ before after) (step_at_lem F μ k in_figures there)
        ∙ ring (residue F (part μ) k ∷ entry F k k ∷ δ ∷ []) (λ r a d. (r ⊞ (r ⊞ a ⊠ d)) ⊠ d ≐ d ⊠ (num 2 ⊠ r ⊞ a ⊠ d)) tt

    difference : loss c (part ν) ≡ loss c (part μ) +ℤ δ *ℤ (pos 2 *ℤ residue F (part μ) k +ℤ entry F k k *ℤ δ)
    difference =
        loss_difference c (part ν) (part μ)
        ∙ ap (λ s. loss c (part μ) +ℤ s) (sum_one (parts J) k below (λ l _ away. elsewhere l away) ∙ here)

    pub step_lowers : loss c (part ν) ≤ℤ loss c (part μ)
    unfolding change
    step_lowers =
        let fall = moved_falls (entry F k k) (residue F (part μ) k) (part μ k) (diagonal_at_least_one k below) (m.inside k) in
        rw difference (simp linear (omega (zarith, simp linear at fall)))

  -- ---- one sweep, and the sweeps of a call

  -- a mean that came of μ: a mean again, with a loss that is no larger
  pub record CameOf (μ ν : List ℤ) : Type 0 where
    pub mean : MeanOf J ν
    pub lower : loss c (part ν) ≤ℤ loss c (part μ)

  came_further : {μ ν ξ : List ℤ} → CameOf μ ν → CameOf ν ξ → CameOf μ ξ
  came_further a b = record { mean = b.mean; lower = ≤ℤ_trans b.lower a.lower }

  sweep_from_came : (k n : ℕ) → k + n ≤ parts J → (μ : List ℤ) → MeanOf J μ → CameOf μ (sweep_from F k n μ)
  unfolding sweep_from
  sweep_from_came k zero within μ m = record { mean = m; lower = ≤ℤ_refl (loss c (part μ)) }
  sweep_from_came k (suc n) within μ m =
      let below : k < parts J = omega arith in
      let stepped : CameOf μ (step F k μ) = record { mean = step_mean μ k m below; lower = step_lowers μ k m below } in
      came_further stepped (sweep_from_came (suc k) n (omega arith) (step F k μ) stepped.mean)

  pub one_sweep_came : (μ : List ℤ) → MeanOf J μ → CameOf μ (one_sweep F μ)
  unfolding figures_from
  one_sweep_came μ m = sweep_from_came 0 (parts J) (omega arith) μ m

  pub sweeps_came : (n : ℕ) (μ : List ℤ) (total : ℕ) → MeanOf J μ → CameOf μ (sweeps F n μ total).mean
  unfolding sweeps
  sweeps_came zero μ total m = record { mean = m; lower = ≤ℤ_refl (loss c (part μ)) }
  sweeps_came (suc n) μ total m =
      let swept = one_sweep_came μ m in
      by_test (passes F (part μ) || leb sweep_limit total) (came_further swept (sweeps_came n (one_sweep F μ) (suc total) swept.mean))
    where
      by_test : (t : Bool) → CameOf μ (sweeps F n (one_sweep F μ) (suc total)).mean
          → CameOf μ (cond t (record { mean = μ; swept = total }) (sweeps F n (one_sweep F μ) (suc total))).mean
      by_test true further = record { mean = m; lower = ≤ℤ_refl (loss c (part μ)) }
      by_test false further = further
