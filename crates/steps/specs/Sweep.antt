-- The contracts of a sweep, and of the sweep of some parts that it is made of.
use Prim.Native.Nat.{ℕ, suc, ◌+◌, ◌-◌, ◌≤◌, ◌<◌}
use Rattle.std.specs.Prelude.{◌≡◌, refl, List, ℤ}
use Rattle.std.proofs.Math.Path.{sym, ap, ap₂}
use Rattle.std.proofs.Common.{◌∙◌, subst}
use native.Mathlib.Omega.{arith}
use Rattle.definitions.specs.Layout.{parts}
use Rattle.definitions.specs.Refusals.{year_limit}
use Rattle.definitions.specs.Sweep.{step, sweep_from, one_sweep}
use Rattle.chain.specs.Arrays.{mean_of}
use Rattle.chain.specs.Fitting.{Fitting, Inside}
use Rattle.steps.specs.declared.Working.{Working}
use Rattle.steps.specs.Working.{held}
use Rattle.steps.specs.Step.{Steps, Stepped}

-- a working mean whose system fits
pub record OfSystem (last : ℕ) (A : List ℤ) (w : Working) : Type 0 where
  pub fitting : Fitting (held last A w)
  pub inside : Inside (parts last) w.mean

pub years_few : {last : ℕ} {A : List ℤ} {w : Working} → OfSystem last A w → last ≤ year_limit
unfolding held
years_few h = h.fitting.years

pub record OneSwept (last : ℕ) (A : List ℤ) (w r : Working) : Type 0 where
  pub mean : mean_of last r.mean ≡ one_sweep (held last A w) (mean_of last w.mean)
  pub residues : held last A r ≡ held last A w
  pub inside : Inside (parts last) r.mean

-- ---- the parts from `first` on that stand before `end`

pub record OfParts (last : ℕ) (A : List ℤ) (w : Working) (end : ℕ) : Type 0 where
  pub of_system : OfSystem last A w
  pub few : end ≤ parts last

abbrev pub sweep_of : ℕ → List ℤ → Working → ℕ → ℕ → List ℤ → List ℤ
sweep_of last A w first end = sweep_from (held last A w) first (end - first)

pub record SweptFrom (last : ℕ) (A : List ℤ) (w : Working) (first end : ℕ) (r : Working) : Type 0 where
  pub mean : mean_of last r.mean ≡ sweep_of last A w first end (mean_of last w.mean)
  pub residues : held last A r ≡ held last A w
  pub inside : Inside (parts last) r.mean

-- one sweep is of all parts, from part 0 on
pub swept_all : {last : ℕ} {A : List ℤ} {w r : Working} {first end : ℕ} → first ≡ 0 → end ≡ parts last
    → SweptFrom last A w first end r → OneSwept last A w r
unfolding held
swept_all {last} {A} {w} {r} {first} {end} from-0 to-all swept = record {
  mean =
      let count : end - first ≡ parts last = omega arith in
      swept.mean ∙ ap₂ (λ k n. sweep_from (held last A w) k n (mean_of last w.mean)) from-0 count;
  residues = swept.residues;
  inside = swept.inside;
}

-- ---- a sweep that has come to part k: what is left of it gives the whole

pub record Sweeping (last : ℕ) (A : List ℤ) (w : Working) (first end k : ℕ) (r : Working) : Type 0 where
  pub left : sweep_of last A w k end (mean_of last r.mean) ≡ sweep_of last A w first end (mean_of last w.mean)
  pub residues : held last A r ≡ held last A w
  pub inside : Inside (parts last) r.mean

module _ {last : ℕ} {A : List ℤ} {w : Working} {end : ℕ} (h : OfParts last A w end) where
  pub end_below : end ≤ 31
  end_below = omega (arith, h.few, years_few h.of_system)

  pub sweeping_none : (first : ℕ) → Sweeping last A w first end first w
  sweeping_none first = record { left = refl; residues = refl; inside = h.of_system.inside }

  module _ {first k : ℕ} {r : Working} (so_far : Sweeping last A w first end k r) where
    pub steps : k < end → Steps last A r k
    steps below = record {
      fitting = subst Fitting (sym so_far.residues) h.of_system.fitting;
      inside = so_far.inside;
      below = omega (arith, h.few);
    }

    pub sweeping_next : k < end → {s : Working} → Stepped last A r k s → Sweeping last A w first end (k + 1) s
    unfolding sweep_from
    sweeping_next below {s} stepped = record {
      left =
          let more : end - k ≡ suc (end - (k + 1)) = omega arith in
          let next : k + 1 ≡ suc k = omega arith in
          ap₂ (λ i μ. sweep_from (held last A w) i (end - (k + 1)) μ) next
          (stepped.mean ∙ ap (λ F. step F k (mean_of last r.mean)) so_far.residues)
          ∙ sym (ap (λ n. sweep_from (held last A w) k n (mean_of last r.mean)) more)
          ∙ so_far.left;
      residues = stepped.residues ∙ so_far.residues;
      inside = stepped.inside;
    }

    pub sweeping_all : end ≤ k → SweptFrom last A w first end r
    unfolding sweep_from
    sweeping_all all = record {
      mean =
          let none : end - k ≡ 0 = omega arith in
          sym (ap (λ n. sweep_from (held last A w) k n (mean_of last r.mean)) none) ∙ so_far.left;
      residues = so_far.residues;
      inside = so_far.inside;
    }
