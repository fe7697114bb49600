-- The contract of the sweeps of a call, with what it says of a working mean.
use Prim.Native.Nat.{ℕ, zero, suc, ◌+◌, ◌-◌, ◌≤◌, ◌<◌}
use Rattle.std.specs.Prelude.{◌≡◌, Bool, true, false, ◌||◌, List, [], ◌∷◌, ◌-ℤ◌}
use Rattle.std.proofs.Math.Path.{refl, ap, ap₂}
use Rattle.std.proofs.Common.{sym, ◌∙◌, subst, le-leb}
use Rattle.std.proofs.Math.Bool.{cond}
use native.Mathlib.Omega.{arith}
use Rattle.std.proofs.lemmas.Bool.{lt-leb}
use Rattle.std.proofs.Math.IntN.{ℤ}
use Rattle.std.proofs.Math.Dec.{leb}
use Rattle.integers.specs.Solver.{ring, ◌⊟◌, ◌≐◌}
use Rattle.definitions.specs.Words.{part}
use Rattle.definitions.specs.Layout.{parts}
use Rattle.definitions.specs.Matrix as D
use Rattle.definitions.specs.Matrix.{residue, is_passed, passes}
use Rattle.definitions.specs.Sweep as S
use Rattle.definitions.specs.Sweep.{step, change, sweep_from, one_sweep, sweeps, sweep_limit}
use Rattle.laws.proofs.Tables.{tab_cong}
use Rattle.chain.specs.declared.arrays.Figures.{Figures}
use Rattle.chain.specs.Arrays.{mean_of, system, figures_of, system_of, row_product}
use Rattle.chain.specs.Fitting.{Fitting, Inside}
use Rattle.chain.specs.Judge.{test_is_judgement, residues_are, PassesIn, ResiduesIn}
use Rattle.chain.specs.Sizes.{mean_at_lem, residue_at_lem, residue_same, system_fits}
use Rattle.steps.specs.declared.Working.{Working}
use Rattle.steps.specs.declared.sweep.Swept.{Swept}
use Rattle.steps.specs.Working.{held}
use Rattle.steps.specs.Held.{held_residue}
use Rattle.steps.specs.Sweep.{OfSystem, OneSwept}

abbrev pub mean_in : Figures → Working → List ℤ
mean_in F w = mean_of F.last w.mean

-- a mean inside the limits, with the residues that it has
pub record Holds (F : Figures) (w : Working) : Type 0 where
  pub inside : Inside (parts F.last) w.mean
  pub residues : (k : ℕ) → k < parts F.last → part w.residues k ≡ residue (figures_of F) (part (mean_in F w)) k

pub record Sweeps (F : Figures) (w : Working) : Type 0 where
  pub fitting : Fitting (figures_of F)
  pub holds : Holds F w

abbrev pub swept_of : ℕ → Swept → S.Swept
swept_of last r = record { mean = mean_of last r.working.mean; swept = r.total }

pub record SweptTo (F : Figures) (w : Working) (total n : ℕ) (r : Swept) : Type 0 where
  pub is : swept_of F.last r ≡ sweeps (figures_of F) n (mean_in F w) total
  pub holds : Holds F r.working
  pub passing : r.passes ≡ passes (figures_of F) (part (mean_of F.last r.working.mean))

-- ---- a working mean belongs to the figures' system exactly if its residues are theirs

module _ (F : Figures) where
  pub holds_held : (w : Working) → Holds F w → held F.last F.matrix w ≡ system_of F
  unfolding held
  holds_held w h = ap (system F.last F.matrix) (tab_cong 0 (parts F.last) (λ k _ to. at k (omega arith)))
    where
      at : (k : ℕ) → k < parts F.last
          → row_product F.matrix k (parts F.last) w.mean -ℤ part w.residues k ≡ part F.right_hand k
      at k below =
          let row : ℤ = row_product F.matrix k (parts F.last) w.mean in
          ap (λ r. row -ℤ r)
          (h.residues k below
          ∙ residue_same F (part (mean_in F w)) k
          ∙ residue_at_lem F.last F.matrix (mean_of F.last F.right_hand) w.mean k below
          ∙ ap (λ b. row -ℤ b) (mean_at_lem F.last F.right_hand k below))
          ∙ ring (row ∷ part F.right_hand k ∷ []) (λ s b. s ⊟ (s ⊟ b) ≐ b) tt

  pub held_holds : (w : Working) → Inside (parts F.last) w.mean → held F.last F.matrix w ≡ system_of F → Holds F w
  held_holds w inside same = record {
    inside = inside;
    residues = λ k below. sym (held_residue F.last F.matrix w k below)
        ∙ ap (λ G. residue G (part (mean_in F w)) k) same
        ∙ sym (residue_same F (part (mean_in F w)) k);
  }

  -- a sweep uses of the figures only their system
  sweep_same : (k n : ℕ) (μ : List ℤ) → sweep_from (system_of F) k n μ ≡ sweep_from (figures_of F) k n μ
  unfolding sweep_from step change residue figures_of
  sweep_same k zero μ = refl
  sweep_same k (suc n) μ = sweep_same (suc k) n (step (system_of F) k μ)

  pub sweep_asks : (w : Working) → Fitting (figures_of F) → Holds F w → OfSystem F.last F.matrix w
  sweep_asks w fitting h = record { fitting = subst Fitting (sym (holds_held w h)) (system_fits F fitting); inside = h.inside }

  module _ (w r : Working) (h : Holds F w) (swept : OneSwept F.last F.matrix w r) where
    pub swept_mean : mean_in F r ≡ one_sweep (figures_of F) (mean_in F w)
    unfolding figures_of
    swept_mean =
        swept.mean
        ∙ ap (λ G. one_sweep G (mean_in F w)) (holds_held w h)
        ∙ sweep_same 0 (parts F.last) (mean_in F w)

    pub swept_holds : Holds F r
    swept_holds = held_holds r swept.inside (swept.residues ∙ holds_held w h)

  -- a mean with the residues that were found of it
  pub started : (μ v : List ℤ) → Inside (parts F.last) μ → ResiduesIn F μ v → Holds F (record { mean = μ; residues = v })
  started μ v inside found = record { inside = inside; residues = residues_are F μ v found }

  -- ---- the test of a working mean

  pub passes_is : (w : Working) → Holds F w → {p : Bool} → PassesIn F w.residues p
      → p ≡ passes (figures_of F) (part (mean_in F w))
  passes_is w h tested = tested.is ∙ ap is_passed (test_is_judgement F (part (mean_in F w)) w.residues h.residues)

-- ---- the sweeps of a call, by one sweep

module _ (G : D.Figures) (μ : List ℤ) (t : ℕ) where
  pub sweeps_none : sweeps G 0 μ t ≡ record { mean = μ; swept = t }
  unfolding sweeps
  sweeps_none = refl

  pub sweeps_settled : (n : ℕ) → passes G (part μ) ≡ true → sweeps G n μ t ≡ record { mean = μ; swept = t }
  unfolding sweeps
  sweeps_settled zero p = refl
  sweeps_settled (suc n) p =
      ap (λ b. cond (b || leb sweep_limit t) (record { mean = μ; swept = t }) (sweeps G n (one_sweep G μ) (suc t))) p

  pub sweeps_spent : (n : ℕ) → passes G (part μ) ≡ false → sweep_limit ≤ t → sweeps G n μ t ≡ record { mean = μ; swept = t }
  unfolding sweeps
  sweeps_spent zero p l = refl
  sweeps_spent (suc n) p l =
      ap₂ (λ b c. cond (b || c) (record { mean = μ; swept = t }) (sweeps G n (one_sweep G μ) (suc t))) p (le-leb sweep_limit t l)

  pub sweeps_next : (n : ℕ) → 0 < n → passes G (part μ) ≡ false → t < sweep_limit
      → sweeps G n μ t ≡ sweeps G (n - 1) (one_sweep G μ) (t + 1)
  unfolding sweeps
  sweeps_next n some p l =
      let more : n ≡ suc (n - 1) = omega arith in
      let next : suc t ≡ t + 1 = omega arith in
      ap (λ m. sweeps G m μ t) more
      ∙ ap₂ (λ b c. cond (b || c) (record { mean = μ; swept = t }) (sweeps G (n - 1) (one_sweep G μ) (suc t))) p (lt-leb sweep_limit t l)
      ∙ ap (sweeps G (n - 1) (one_sweep G μ)) next

-- ---- sweeps that are under way: what is left of them gives the whole

pub record Running (F : Figures) (w : Working) (total n : ℕ) (current : Working) (run left : ℕ) (passed : Bool) : Type 0 where
  pub rest : sweeps (figures_of F) left (mean_in F current) run ≡ sweeps (figures_of F) n (mean_in F w) total
  pub holds : Holds F current
  pub passing : passed ≡ passes (figures_of F) (part (mean_in F current))

pub run_first : {F : Figures} {w : Working} (total n : ℕ) → Sweeps F w → {p : Bool} → PassesIn F w.residues p
    → Running F w total n w total n p
run_first {F} {w} total n h tested = record { rest = refl; holds = h.holds; passing = passes_is F w h.holds tested }

module _ {F : Figures} {w : Working} {total n : ℕ} {current : Working} {run left : ℕ} {passed : Bool}
    (h : Running F w total n current run left passed) where
  abbrev G : D.Figures
  G = figures_of F

  pub run_settled : passed ≡ true → SweptTo F w total n (record { working = current; total = run; passes = passed })
  run_settled p = record {
    is = sym (sweeps_settled G (mean_in F current) run left (sym h.passing ∙ p)) ∙ h.rest;
    holds = h.holds;
    passing = h.passing;
  }

  pub run_spent : passed ≡ false → sweep_limit ≤ run → SweptTo F w total n (record { working = current; total = run; passes = passed })
  run_spent p l = record {
    is = sym (sweeps_spent G (mean_in F current) run left (sym h.passing ∙ p) l) ∙ h.rest;
    holds = h.holds;
    passing = h.passing;
  }

  pub run_out : left ≤ 0 → SweptTo F w total n (record { working = current; total = run; passes = passed })
  run_out none =
      let zero_left : left ≡ 0 = omega arith in
      record {
        is = sym (ap (λ m. sweeps G m (mean_in F current) run) zero_left ∙ sweeps_none G (mean_in F current) run) ∙ h.rest;
        holds = h.holds;
        passing = h.passing;
      }

  pub run_next : 0 < left → passed ≡ false → run < sweep_limit → {r : Working} → OneSwept F.last F.matrix current r
      → {p : Bool} → PassesIn F r.residues p → Running F w total n r (run + 1) (left - 1) p
  run_next some not-passed below {r} swept tested = record {
    rest =
        ap (λ μ. sweeps G (left - 1) μ (run + 1)) (swept_mean F current r h.holds swept)
        ∙ sym (sweeps_next G (mean_in F current) run left some (sym h.passing ∙ not-passed) below)
        ∙ h.rest;
    holds = swept_holds F current r h.holds swept;
    passing = passes_is F r (swept_holds F current r h.holds swept) tested;
  }
