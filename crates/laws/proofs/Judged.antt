-- The test of a mean, part by part, in the terms of a chain's matrix: passed exactly if every |residue| is at most e·D.
use Prim.Native.Nat.{ℕ, zero, suc, ◌+◌, ◌*◌, ◌≤◌, ◌<◌, zero-le}
use Rattle.std.specs.Prelude.{◌≡◌, ◌⊎◌, Bool, cond, pos, nat_abs, ◌*ℤ◌}
use Rattle.std.proofs.Math.Path.{refl, sym, ap, ap₂, subst}
use Rattle.std.proofs.Common.{◌∙◌, inl, inr, eq-or-lt_of_le, le→leb}
use mathlib.Core.List.{[]}
use Rattle.std.proofs.Math.Bool.{true, false}
use Rattle.std.proofs.lemmas.Bool.{false≢true}
use native.Mathlib.Omega.{arith}
use Rattle.std.proofs.Math.Dec.{T, leb, leb→le}
use Rattle.std.proofs.Math.IntN.{◌-ℤ◌}
use Rattle.integers.specs.Ring.{*ℤ_idl}
use Rattle.integers.specs.Sum.{sum_cong}
use Rattle.definitions.specs.Words.{tab_from, part}
use Rattle.definitions.specs.Layout.{parts}
use Rattle.definitions.specs.Loss.{Vector}
use Rattle.definitions.specs.Observations.{Chain}
use Rattle.definitions.specs.Matrix.{own, matrix, right_hand_side, residue_times, Figures, figures_from, entry, residue, part_passes, judge_from, fails}
use Rattle.definitions.specs.Matrix.{is_passed, passes}
use Rattle.laws.proofs.Tables.{tab_at}

-- ---- passed, part by part

module _ (F : Figures) (u : Vector) where
  pub judged_passes : (k n : ℕ) → is_passed (judge_from F u k n) ≡ true → (l : ℕ) → k ≤ l → l < k + n → T (part_passes F u l)
  unfolding judge_from
  judged_passes k zero h l from to = absurd (omega arith)
  judged_passes k (suc n) h l from to = by_test (part_passes F u k) refl h (λ rest. judged_passes (suc k) n rest l) (eq-or-lt_of_le from)
    where
      by_test : (t : Bool) → part_passes F u k ≡ t
          → is_passed (cond t (judge_from F u (suc k) n) (fails k)) ≡ true
          → (is_passed (judge_from F u (suc k) n) ≡ true → suc k ≤ l → l < suc k + n → T (part_passes F u l))
          → (k ≡ l) ⊎ (k < l) → T (part_passes F u l)
      by_test false e h later side = absurd (false≢true h)
      by_test true e h later (inl same) = subst (λ i. T (part_passes F u i)) same (subst T (sym e) tt)
      by_test true e h later (inr past) = later h past (omega arith)

  pub passes_judged : (k n : ℕ) → ((l : ℕ) → k ≤ l → l < k + n → T (part_passes F u l)) → is_passed (judge_from F u k n) ≡ true
  unfolding judge_from
  passes_judged k zero h = refl
  passes_judged k (suc n) h =
      let rest = passes_judged (suc k) n (λ l from to. h l (omega arith) (omega arith)) in
      by_test (part_passes F u k) (h k (omega arith) (omega arith)) rest
    where
      by_test : (t : Bool) → T t → is_passed (judge_from F u (suc k) n) ≡ true → is_passed (cond t (judge_from F u (suc k) n) (fails k)) ≡ true
      by_test true t rest = rest
      by_test false t rest = absurd t

-- ---- the same over a chain's own weights and matrix

module _ (c : Chain) (e : ℕ) where
  abbrev n : ℕ
  n = parts c.last

  abbrev F : Figures
  F = figures_from c e

  pub entry_of_chain : (k l : ℕ) → k < n → l < n → entry F k l ≡ matrix c k l
  unfolding figures_from
  entry_of_chain k l k-below l-below =
      ap (λ row. part row l) (tab_at n (λ i. tab_from 0 n (matrix c i)) k [] k-below) ∙ tab_at n (matrix c k) l (pos 0) l-below

  module _ (u : Vector) where
    pub residue_of_chain : (k : ℕ) → k < n → residue F u k ≡ residue_times c 1 u k
    unfolding residue residue_times figures_from
    residue_of_chain k below =
        ap₂ ◌-ℤ◌
        (sum_cong n (λ l l-below. ap (λ z. z *ℤ u l) (entry_of_chain k l below l-below)))
        (tab_at n (right_hand_side c) k (pos 0) below ∙ sym (*ℤ_idl (right_hand_side c k)))

    abbrev pub SmallResidues : Type 0
    SmallResidues = (k : ℕ) → k < n → nat_abs (residue_times c 1 u k) ≤ e * own c k

    test_of_chain : (k : ℕ) → k < n → part_passes F u k ≡ leb (nat_abs (residue_times c 1 u k)) (e * own c k)
    unfolding figures_from
    test_of_chain k below = ap₂ (λ r D. leb (nat_abs r) (e * D)) (residue_of_chain k below) (tab_at n (own c) k 0 below)

    pub small_of_passes : passes F u ≡ true → SmallResidues
    unfolding figures_from
    small_of_passes h k below =
        leb→le (nat_abs (residue_times c 1 u k)) (e * own c k)
        (subst T (test_of_chain k below) (judged_passes F u 0 n h k zero-le (omega arith)))

    pub passes_of_small : SmallResidues → passes F u ≡ true
    unfolding figures_from
    passes_of_small small =
        passes_judged F u 0 n (λ k _ to.
        let below : k < n = omega arith in
        subst T (sym (test_of_chain k below)) (le→leb (nat_abs (residue_times c 1 u k)) (e * own c k) (small k below)))
