-- The sizes of what a step computes, and what it has then done.
use Rattle.std.specs.Prelude.{ℕ, suc, ◌+◌, ◌*◌, ◌/◌, ◌^◌, ◌≤◌, ◌<◌, ◌≡◌, List, ℤ, pos, negsuc, nat_abs, ◌+ℤ◌, ◌-ℤ◌, ◌*ℤ◌, ◌≤ℤ◌, length, set}
use Rattle.std.proofs.Common.{sym, ap, ◌∙◌, subst, le_trans, arith, get_or-set_same, get_or-set_other}
use Rattle.std.proofs.Math.Decide.{ℕ_discrete}
use Rattle.std.specs.Int.Signed.{mag, mag_shr, nat_abs-le}
use Rattle.integers.specs.Size.{nat_abs-+, nat_abs--}
use Rattle.integers.specs.Floor.{floor_div}
use Rattle.definitions.specs.Words.{part}
use Rattle.definitions.specs.Layout.{parts}
use Rattle.definitions.specs.Refusals.{part_limit}
use Rattle.laws.proofs.StepLaws.{bring_back_inside}
use Rattle.chain.specs.Arrays.{mean_of, cell, system}
use Rattle.chain.specs.Fitting.{Fitting, Inside, diagonal_limit, residue_limit}
use Rattle.chain.specs.Sizes.{diagonal_from, diagonal_fits, cell_fits, residue_fits}
use Rattle.steps.specs.declared.Working.{Working}
use Rattle.steps.specs.Working.{held_right_hand, held}
use Rattle.steps.specs.Held.{held_difference, moved, stepped, step_is, mean_set, followed_is, held_same, dividend, mean_after}
use Rattle.steps.specs.Step.{Follows, Followed, Steps, Stepped}

-- |z| is at most one more than `mag z`, and `mag z` at most |z|
floor_size : (x : ℤ) (d : ℕ) → nat_abs (floor_div x d) ≤ nat_abs x + 1
floor_size x d = nat_abs-le (floor_div x d) (le_trans (suc_mag (floor_div x d) x (mag_shr x d)) (omega arith))
  where
    suc_mag : (y x : ℤ) → mag y ≤ mag x → suc (mag y) ≤ nat_abs x + 1
    suc_mag y (pos n) h = omega arith
    suc_mag y (negsuc n) h = omega arith

module _ {last : ℕ} {A : List ℤ} {w : Working} {k : ℕ} (h : Steps last A w k) where
  held_fits : Fitting (system last A (held_right_hand last A w))
  unfolding held
  held_fits = h.fitting

  last_small : last ≤ 15
  last_small = held_fits.years

  pub parts_below : parts last ≤ 31
  parts_below = omega (arith, last_small)

  pub index_below : k < 31
  index_below = omega (arith, parts_below, h.below)

  pub diagonal_small : nat_abs (cell A k k) ≤ diagonal_limit
  diagonal_small = diagonal_fits last A (held_right_hand last A w) held_fits k h.below

  pub diagonal_positive : pos 1 ≤ℤ cell A k k
  diagonal_positive = diagonal_from last A (held_right_hand last A w) held_fits k h.below

  pub residue_small : nat_abs (part w.residues k) ≤ residue_limit
  residue_small =
      let fits = residue_fits last A (held_right_hand last A w) held_fits w.mean h.inside k h.below in
      omega (arith, fits, ap nat_abs (held_difference last A w k h.below))

  pub half_small : nat_abs (cell A k k) / 2 ≤ diagonal_limit
  half_small = omega (arith, diagonal_small)

  pub dividend_small : nat_abs (dividend A w k) ≤ diagonal_limit + residue_limit
  dividend_small = le_trans (nat_abs-- (pos (nat_abs (cell A k k) / 2)) (part w.residues k)) (omega (arith, half_small, residue_small))

  pub quotient_small : nat_abs (moved A w k) ≤ diagonal_limit + residue_limit + 1
  quotient_small = omega (arith, floor_size (dividend A w k) (nat_abs (cell A k k)), dividend_small)

  pub moved_small : nat_abs (part w.mean k +ℤ moved A w k) < 2 ^ 63
  moved_small = omega (arith, nat_abs-+ (part w.mean k) (moved A w k), h.inside.small k h.below, quotient_small)

  -- ---- the part set anew

  pub fresh_small : nat_abs (stepped A w k) ≤ part_limit
  fresh_small = bring_back_inside (part w.mean k +ℤ moved A w k)

  pub change_small : nat_abs (stepped A w k -ℤ part w.mean k) ≤ 2 * part_limit
  change_small = omega (arith, nat_abs-- (stepped A w k) (part w.mean k), fresh_small, h.inside.small k h.below)

  module _ (long : parts last ≤ length w.mean) where
    pub still_inside : Inside (parts last) (mean_after A w k)
    still_inside = record { small = λ i i-below. by_place i i-below (ℕ_discrete i k) }
      where
        by_place : (i : ℕ) → i < parts last → Dec (i ≡ k) → nat_abs (part (mean_after A w k) i) ≤ part_limit
        by_place i i-below (yes here) =
            let new = get_or-set_same w.mean k (stepped A w k) (pos 0) (omega (arith, h.below)) in
            let is : part (mean_after A w k) i ≡ stepped A w k = ap (part (mean_after A w k)) here ∙ new in
            omega (arith, ap nat_abs is, fresh_small)
        by_place i i-below (no apart) =
            let kept = get_or-set_other w.mean k i (stepped A w k) (pos 0) apart in
            omega (arith, ap nat_abs kept, h.inside.small i i-below)

    -- d and z are the change and the part as the code has them
    pub follows : length w.residues ≡ 31 → {d : ℤ} → d ≡ stepped A w k -ℤ part w.mean k → Follows last A w.residues k d
    follows residues_long d_is = subst (Follows last A w.residues k) (sym d_is) (record {
      years = last_small;
      long = residues_long;
      below = h.below;
      column = λ l l-below. cell_fits last A (held_right_hand last A w) held_fits l k l-below h.below;
      change = change_small;
      sums = λ l l-below. omega (
        arith,
        ap nat_abs (followed_is last A w long k h.below (stepped A w k) l l-below),
        residue_fits last A (held_right_hand last A w) held_fits (mean_after A w k) still_inside l l-below,
      );
    })

    pub done : {z d : ℤ} → z ≡ stepped A w k → d ≡ stepped A w k -ℤ part w.mean k → (v : List ℤ) → Followed last A w.residues k d v
        → Stepped last A w k (record { mean = set w.mean k z; residues = v })
    done {z} {d} z-is d_is v followed =
        let r : Working = record { mean = set w.mean k z; residues = v } in
        let mean_is : set w.mean k z ≡ mean_after A w k = ap (set w.mean k) z-is in
        record {
          mean = ap (mean_of last) mean_is
              ∙ mean_set last w.mean long k h.below (stepped A w k)
              ∙ sym (step_is last A w k h.below diagonal_positive);
          residues = held_same last A w long k h.below (stepped A w k) r mean_is
              (λ i i-below. followed.at i i-below ∙ ap (λ e. part w.residues i +ℤ cell A i k *ℤ e) d_is);
          inside = subst (Inside (parts last)) (sym mean_is) still_inside;
        }
