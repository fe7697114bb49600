-- The contracts of the test.
use Prim.Native.Nat.{ℕ, zero, suc, ◌+◌, ◌*◌, ◌-◌, ◌≤◌, ◌<◌}
use Rattle.std.specs.Prelude.{◌≡◌, Bool, List, ℤ, nat_abs}
use Rattle.std.proofs.Math.Path.{refl, ap, ap₂}
use Rattle.std.proofs.Common.{sym, ◌∙◌, le-leb}
use Rattle.std.proofs.Math.Bool.{cond}
use native.Mathlib.Omega.{arith}
use Rattle.std.proofs.Math.ListN.{get_or}
use Rattle.std.proofs.Math.Dec.{leb}
use Rattle.std.proofs.lemmas.Bool.{lt-leb}
use Rattle.definitions.specs.Words.{part}
use Rattle.definitions.specs.Layout.{parts}
use Rattle.definitions.specs.Loss.{Vector}
use Rattle.definitions.specs.Refusals.{year_limit, closeness_limit}
use Rattle.definitions.specs.Matrix as D
use Rattle.definitions.specs.Matrix.{passed, fails, is_passed, passes, judge_from, judgement, residue}
use Rattle.laws.proofs.Tables.{tab_at}
use Rattle.chain.specs.declared.arrays.Figures.{Figures}
use Rattle.chain.specs.declared.judge.Judgement.{Judgement}
use Rattle.chain.specs.Verdict.{judgement_of}
use Rattle.chain.specs.Arrays.{mean_of, figures_of}
use Rattle.chain.specs.Fitting.{Fitting, own_limit}
use Rattle.chain.specs.Residues.{ResiduesOf}
use Rattle.chain.specs.Sizes.{residue_same}

-- The definitions' test over residues that are at hand: parts k, k + 1, …, n of them.
unfoldable pub test_from : ℕ → List ℕ → List ℤ → ℕ → ℕ → D.Judgement
test_from e D v k zero = passed
test_from e D v k (suc n) = cond (leb (nat_abs (part v k)) (e * get_or D k 0)) (test_from e D v (suc k) n) (fails k)

-- ---- contracts

pub record OwnFits (last e : ℕ) (D : List ℕ) : Type 0 where
  pub years : last ≤ year_limit
  pub close : e ≤ closeness_limit
  pub own_weights : (k : ℕ) → k < parts last → get_or D k 0 ≤ own_limit

pub record Tested (last e : ℕ) (D : List ℕ) (v : List ℤ) (r : Judgement) : Type 0 where
  pub is : judgement_of r ≡ test_from e D v 0 (parts last)

pub record Passes (last e : ℕ) (D : List ℕ) (v : List ℤ) (r : Bool) : Type 0 where
  pub is : r ≡ is_passed (test_from e D v 0 (parts last))

-- the same of figures in arrays
abbrev pub ResiduesIn : Figures → List ℤ → List ℤ → Type 0
ResiduesIn F = ResiduesOf F.last F.matrix F.right_hand

abbrev pub TestedIn : Figures → List ℤ → Judgement → Type 0
TestedIn F = Tested F.last F.closeness F.own

abbrev pub PassesIn : Figures → List ℤ → Bool → Type 0
PassesIn F = Passes F.last F.closeness F.own

-- ---- what the test asks of figures that fit

pub own_fits : (F : Figures) → Fitting (figures_of F) → OwnFits F.last F.closeness F.own
unfolding figures_of
own_fits F h = record {
  years = h.years;
  close = h.close;
  own_weights = λ k below. omega (arith, h.own_weights k below, tab_at (parts F.last) (λ i. get_or F.own i 0) k 0 below);
}

-- ---- the test by one part

module _ (e : ℕ) (own : List ℕ) (v : List ℤ) (k n : ℕ) where
  abbrev bound : ℕ
  bound = e * get_or own k 0

  -- part k, and what is tested behind it
  abbrev by : Bool → D.Judgement
  by passing = cond passing (test_from e own v (suc k) (n - (k + 1))) (fails k)

  pub test_next : k < n → {s : ℕ} → s ≡ nat_abs (part v k) → s ≤ bound
      → test_from e own v k (n - k) ≡ test_from e own v (k + 1) (n - (k + 1))
  unfolding test_from
  test_next below size small =
      let more : n - k ≡ suc (n - (k + 1)) = omega arith in
      let next : suc k ≡ k + 1 = omega arith in
      ap (test_from e own v k) more
      ∙ ap by (le-leb (nat_abs (part v k)) bound (omega arith))
      ∙ ap (λ i. test_from e own v i (n - (k + 1))) next

  pub test_fails : k < n → {s : ℕ} → s ≡ nat_abs (part v k) → bound < s → test_from e own v k (n - k) ≡ fails k
  unfolding test_from
  test_fails below size large =
      let more : n - k ≡ suc (n - (k + 1)) = omega arith in
      ap (test_from e own v k) more ∙ ap by (lt-leb (nat_abs (part v k)) bound (omega arith))

  pub test_ends : n ≤ k → test_from e own v k (n - k) ≡ passed
  unfolding test_from
  test_ends all = let none : n - k ≡ 0 = omega arith in ap (test_from e own v k) none

-- ---- of a mean's residues it is the definitions' judgement

module _ (F : Figures) (u : Vector) (v : List ℤ) (same : (k : ℕ) → k < parts F.last → part v k ≡ residue (figures_of F) u k) where
  test_from_lem : (k n : ℕ) → k + n ≤ parts F.last → test_from F.closeness F.own v k n ≡ judge_from (figures_of F) u k n
  unfolding test_from judge_from figures_of
  test_from_lem k zero few = refl
  test_from_lem k (suc n) few =
      let own = tab_at (parts F.last) (λ i. get_or F.own i 0) k 0 (omega arith) in
      ap₂ (λ t rest. cond t rest (fails k))
      (ap₂ (λ r D. leb (nat_abs r) (F.closeness * D)) (same k (omega arith)) (sym own))
      (test_from_lem (suc k) n (omega arith))

  pub test_is_judgement : test_from F.closeness F.own v 0 (parts F.last) ≡ judgement (figures_of F) u
  unfolding figures_of
  test_is_judgement = test_from_lem 0 (parts F.last) (omega arith)

pub residues_are : (F : Figures) (μ v : List ℤ) → ResiduesIn F μ v → (k : ℕ) → k < parts F.last
    → part v k ≡ residue (figures_of F) (part (mean_of F.last μ)) k
residues_are F μ v h k below = h.at k below ∙ sym (residue_same F (part (mean_of F.last μ)) k)

pub judged : (F : Figures) (μ v : List ℤ) → ResiduesIn F μ v → {r : Judgement} → TestedIn F v r
    → judgement_of r ≡ judgement (figures_of F) (part (mean_of F.last μ))
judged F μ v found tested = tested.is ∙ test_is_judgement F (part (mean_of F.last μ)) v (residues_are F μ v found)

pub passing : (F : Figures) (μ v : List ℤ) → ResiduesIn F μ v → {r : Bool} → PassesIn F v r
    → r ≡ passes (figures_of F) (part (mean_of F.last μ))
passing F μ v found tested = tested.is ∙ ap is_passed (test_is_judgement F (part (mean_of F.last μ)) v (residues_are F μ v found))
