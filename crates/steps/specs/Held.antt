-- A working mean and the system that it belongs to: its residues are those of its mean, and stay so where one part is set anew.
use Rattle.std.specs.Prelude.{ℕ, ◌*◌, ◌/◌, ◌≤◌, ◌<◌, ◌≡◌, List, [], ◌∷◌, ◌*ℤ◌, length, ◌≤ℤ◌, ◌<ℤ◌}
use Rattle.std.proofs.Common.{sym, ◌∙◌, subst, arith, length-set, ext_get_or, get_or-set_same, get_or-set_other}
use Rattle.std.proofs.Math.Path.{ap, ap₂}
use Rattle.std.proofs.Math.Decide.{ℕ_discrete}
use Rattle.std.proofs.Math.IntN.{ℤ, pos, nat_abs, ◌+ℤ◌, ◌-ℤ◌}
use Rattle.std.proofs.Math.ListN.{set}
use Rattle.integers.specs.Solver.{ring, ◌⊞◌, ◌⊟◌, ◌≐◌}
use Rattle.integers.specs.Linear.{linear, zarith}
use Rattle.integers.specs.Order.{nonneg_pos, pos-<}
use Rattle.integers.specs.Floor.{floor_div, floor_half}
use Rattle.definitions.specs.Words.{part}
use Rattle.definitions.specs.Layout.{parts}
use Rattle.definitions.specs.Matrix.{residue, entry}
use Rattle.definitions.specs.Sweep.{bring_back, change, step}
use Rattle.laws.proofs.Tables.{tab_from_length, tab_at, tab_cong}
use Rattle.laws.proofs.StepLaws.{sum_set}
use Rattle.chain.specs.Arrays.{mean_of, cell, system, row_product}
use Rattle.chain.specs.Sizes.{mean_at_lem, entry_at, residue_at_lem}
use Rattle.steps.specs.declared.Working.{Working}
use Rattle.steps.specs.Working.{held_right_hand, held}

-- a part of a mean is set in its array
pub mean_set : (last : ℕ) (v : List ℤ) → parts last ≤ length v → (k : ℕ) → k < parts last → (z : ℤ)
    → mean_of last (set v k z) ≡ set (mean_of last v) k z
mean_set last v long k below z =
    ext_get_or (pos 0) (mean_of last (set v k z)) (set (mean_of last v) k z)
    (table_long (set v k z) ∙ sym (length-set (mean_of last v) k z ∙ table_long v))
    (λ i i-below. at i (omega (arith, table_long (set v k z))))
  where
    table_long : (l : List ℤ) → length (mean_of last l) ≡ parts last
    table_long l = tab_from_length 0 (parts last) (part l)

    by_place : (i : ℕ) → i < parts last → Dec (i ≡ k) → part (set v k z) i ≡ part (set (mean_of last v) k z) i
    by_place i i-below (yes here) =
        ap (part (set v k z)) here
        ∙ get_or-set_same v k z (pos 0) (omega arith)
        ∙ sym (ap (part (set (mean_of last v) k z)) here ∙ get_or-set_same (mean_of last v) k z (pos 0) (omega (arith, table_long v)))
    by_place i i-below (no apart) =
        get_or-set_other v k i z (pos 0) apart
        ∙ sym (get_or-set_other (mean_of last v) k i z (pos 0) apart ∙ mean_at_lem last v i i-below)

    at : (i : ℕ) → i < parts last → part (mean_of last (set v k z)) i ≡ part (set (mean_of last v) k z) i
    at i i-below = mean_at_lem last (set v k z) i i-below ∙ by_place i i-below (ℕ_discrete i k)

-- ---- a working mean

-- what part k changes by before it is brought back, in the arrays' terms and with half of the diagonal entry rounded down
abbrev pub dividend : List ℤ → Working → ℕ → ℤ
dividend A w k = pos (nat_abs (cell A k k) / 2) -ℤ part w.residues k

abbrev pub moved : List ℤ → Working → ℕ → ℤ
moved A w k = floor_div (dividend A w k) (nat_abs (cell A k k))

-- part k after its step
abbrev pub stepped : List ℤ → Working → ℕ → ℤ
stepped A w k = bring_back (part w.mean k +ℤ moved A w k)

abbrev pub mean_after : List ℤ → Working → ℕ → List ℤ
mean_after A w k = set w.mean k (stepped A w k)

module _ (last : ℕ) (A : List ℤ) (w : Working) (k : ℕ) (below : k < parts last) where
  pub held_difference : row_product A k (parts last) w.mean -ℤ part (held_right_hand last A w) k ≡ part w.residues k
  held_difference =
      let row : ℤ = row_product A k (parts last) w.mean in
      ap (λ b. row -ℤ b) (tab_at (parts last) (λ k. row_product A k (parts last) w.mean -ℤ part w.residues k) k (pos 0) below)
      ∙ ring (row ∷ part w.residues k ∷ []) (λ s r. s ⊟ (s ⊟ r) ≐ r) tt

  pub held_residue : residue (held last A w) (part (mean_of last w.mean)) k ≡ part w.residues k
  unfolding held
  held_residue = residue_at_lem last A (held_right_hand last A w) w.mean k below ∙ held_difference

  held_diagonal : entry (held last A w) k k ≡ cell A k k
  unfolding held
  held_diagonal = entry_at last A (held_right_hand last A w) k k below below

  pub step_is : pos 1 ≤ℤ cell A k k → step (held last A w) k (mean_of last w.mean) ≡ set (mean_of last w.mean) k (stepped A w k)
  unfolding step change
  step_is positive =
      ap (λ z. set (mean_of last w.mean) k (bring_back z))
      (ap₂ ◌+ℤ◌ (mean_at_lem last w.mean k below)
      (ap₂ (λ a r. floor_div (a -ℤ pos 2 *ℤ r) (2 * nat_abs a)) held_diagonal held_residue
      ∙ ap (λ a. floor_div (a -ℤ pos 2 *ℤ part w.residues k) (2 * nat_abs (cell A k k))) (sym (nonneg_pos at_least_0))
      ∙ floor_half (nat_abs (cell A k k)) (part w.residues k) some))
    where
      at_least_0 : pos 0 ≤ℤ cell A k k
      at_least_0 = simp linear (omega zarith)

      some : 0 < nat_abs (cell A k k)
      some = pos-<.1 (subst (λ a. pos 0 <ℤ a) (sym (nonneg_pos at_least_0)) (simp linear (omega zarith)))

-- ---- one part of it set anew, and the residues following

module _ (last : ℕ) (A : List ℤ) (w : Working) (long : parts last ≤ length w.mean) (k : ℕ) (below : k < parts last) (z : ℤ) where
  -- what is left of the right-hand side of a residue that follows
  pub followed_is : (i : ℕ) → i < parts last
      → part w.residues i +ℤ cell A i k *ℤ (z -ℤ part w.mean k)
      ≡ row_product A i (parts last) (set w.mean k z) -ℤ part (held_right_hand last A w) i
  followed_is i i-below =
      let row : ℤ = row_product A i (parts last) w.mean in
      let gain : ℤ = cell A i k *ℤ (z -ℤ part w.mean k) in
      ring (row ∷ gain ∷ part w.residues i ∷ []) (λ s g r. r ⊞ g ≐ (s ⊞ g) ⊟ (s ⊟ r)) tt
      ∙ sym (ap₂ ◌-ℤ◌ (sum_set (parts last) (cell A i) w.mean k below (omega arith) z)
      (tab_at (parts last) (λ k. row_product A k (parts last) w.mean -ℤ part w.residues k) i (pos 0) i-below))

  pub held_same : (r : Working) → r.mean ≡ set w.mean k z
      → ((i : ℕ) → i < parts last → part r.residues i ≡ part w.residues i +ℤ cell A i k *ℤ (z -ℤ part w.mean k))
      → held last A r ≡ held last A w
  unfolding held
  held_same r mean_is residues_are = ap (system last A) (tab_cong 0 (parts last) (λ i _ to. at i (omega arith)))
    where
      at : (i : ℕ) → i < parts last
          → row_product A i (parts last) r.mean -ℤ part r.residues i
          ≡ row_product A i (parts last) w.mean -ℤ part w.residues i
      at i i-below =
          let row : ℤ = row_product A i (parts last) w.mean in
          let gain : ℤ = cell A i k *ℤ (z -ℤ part w.mean k) in
          ap₂ ◌-ℤ◌
          (ap (row_product A i (parts last)) mean_is ∙ sum_set (parts last) (cell A i) w.mean k below (omega arith) z)
          (residues_are i i-below)
          ∙ ring (row ∷ gain ∷ part w.residues i ∷ []) (λ s g r. (s ⊞ g) ⊟ (r ⊞ g) ≐ s ⊟ r) tt
