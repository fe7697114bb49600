-- The flat arrays beside the definitions' lists; and how large the numbers are that the code computes, where the figures fit and the mean
-- is inside the limits.
use Rattle.std.specs.Prelude.{ℕ, ◌*◌, ◌-◌, ◌≤◌, ◌<◌, ◌≡◌, ◌≢◌, List, [], ℤ, pos, nat_abs, ◌-ℤ◌, ◌≤ℤ◌}
use Rattle.std.proofs.Common.{zero-le, sym, ◌∙◌, subst, le_refl, le_trans, le_of_eq, mul-le-mul_right, arith}
use Rattle.std.proofs.Math.Path.{refl, ap, ap₂}
use Rattle.std.proofs.Math.Decide.{dec_le, ℕ_discrete}
use Rattle.std.proofs.Math.IntN.{◌*ℤ◌}
use Rattle.integers.specs.Linear.{linear, zarith}
use Rattle.integers.specs.Size.{nat_abs--, nat_abs-*-≤}
use Rattle.integers.specs.Sum.{sum_cong}
use Rattle.integers.specs.Total.{sizes, sum_size, total_mono, total_scale_right, total_bound_but_one}
use Rattle.definitions.specs.Words.{tab_from, part}
use Rattle.definitions.specs.Layout.{parts}
use Rattle.definitions.specs.Refusals.{part_limit}
use Rattle.definitions.specs.Loss.{Vector}
use Rattle.definitions.specs.Matrix.{residue, entry}
use Rattle.laws.proofs.Tables.{tab_at}
use Rattle.chain.specs.declared.arrays.Figures.{Figures as FlatFigures}
use Rattle.chain.specs.Arrays.{mean_of, cell, cell_mirrored, system, figures_of, system_of, row_product}
use Rattle.chain.specs.Fitting.{Fitting, Inside, entry_limit, diagonal_limit, row_limit, right_hand_limit, residue_limit}
use Rattle.chain.specs.Residues.{RowsFit}

-- ---- lists and arrays

pub mean_at_lem : (last : ℕ) (v : List ℤ) (k : ℕ) → k < parts last → part (mean_of last v) k ≡ part v k
mean_at_lem last v k below = tab_at (parts last) (part v) k (pos 0) below

module _ (last : ℕ) (A β : List ℤ) where
  pub entry_at : (k l : ℕ) → k < parts last → l < parts last → entry (system last A β) k l ≡ cell A k l
  entry_at k l k-below l-below =
      ap (λ row. part row l) (tab_at (parts last) (λ i. tab_from 0 (parts last) (cell A i)) k [] k-below)
      ∙ tab_at (parts last) (cell A k) l (pos 0) l-below

  -- the residue in the arrays' terms
  pub residue_at_lem : (μ : List ℤ) (k : ℕ) → k < parts last
      → residue (system last A β) (part (mean_of last μ)) k ≡ row_product A k (parts last) μ -ℤ part β k
  unfolding residue
  residue_at_lem μ k below =
      ap (λ s. s -ℤ part β k) (sum_cong (parts last) (λ l l-below. ap₂ ◌*ℤ◌ (entry_at k l below l-below) (mean_at_lem last μ l l-below)))

-- ---- the figures' own system

module _ (F : FlatFigures) where
  pub residue_same : (u : Vector) (k : ℕ) → residue (figures_of F) u k ≡ residue (system_of F) u k
  unfolding residue figures_of
  residue_same u k = refl

  pub system_fits : Fitting (figures_of F) → Fitting (system_of F)
  unfolding figures_of
  system_fits h = record {
    years = h.years;
    close = zero-le;
    own_weights = λ k below. zero-le;
    entries = h.entries;
    diagonal = h.diagonal;
    diagonal_to = h.diagonal_to;
    right_hand = h.right_hand;
  }

-- ---- sizes

-- the first n rows of a matrix whose entries before the diagonal are in the bounds
module _ (A : List ℤ) (n : ℕ) (rows : RowsFit A n) where
  pub off_diagonal : (k l : ℕ) → k < n → l < n → l ≢ k → nat_abs (cell A k l) ≤ entry_limit
  off_diagonal k l k-below l-below apart = by_side (dec_le l k)
    where
      by_side : Dec (l ≤ k) → nat_abs (cell A k l) ≤ entry_limit
      by_side (yes before) = rows k k-below l (omega (arith, apart))
      by_side (no after) = subst (λ z. nat_abs z ≤ entry_limit) (cell_mirrored A l k) (rows l l-below k (omega (arith, after)))

  pub row_fits : n ≤ 31 → (k : ℕ) → k < n → nat_abs (cell A k k) ≤ diagonal_limit → sizes n (cell A k) ≤ row_limit
  row_fits few k below diagonal =
      let one-larger = total_bound_but_one n k entry_limit (diagonal_limit - entry_limit) {f = λ l. nat_abs (cell A k l)} in
      let row = one-larger (λ l l-below apart. off_diagonal k l below l-below apart) (λ _. omega arith) in
      omega (arith, mul-le-mul_right entry_limit few, row)

-- a row whose first n sizes fit, times a mean
module _ (A μ : List ℤ) (k n : ℕ) (fits : sizes n (cell A k) ≤ row_limit) (inside : Inside n μ) where
  products_fit : sizes n (λ l. cell A k l *ℤ part μ l) ≤ row_limit * part_limit
  products_fit =
      le_trans (total_mono n (λ l below. nat_abs-*-≤ (cell A k l) (part μ l) (le_refl (nat_abs (cell A k l))) (inside.small l below)))
      (le_trans (le_of_eq (total_scale_right n part_limit (λ l. nat_abs (cell A k l)))) (mul-le-mul_right part_limit fits))

  pub sum_fits : nat_abs (row_product A k n μ) ≤ row_limit * part_limit
  sum_fits = le_trans (sum_size n (λ l. cell A k l *ℤ part μ l)) products_fit

  pub difference_fits : (z : ℤ) → nat_abs z ≤ right_hand_limit → nat_abs (row_product A k n μ -ℤ z) ≤ residue_limit
  difference_fits z small = le_trans (nat_abs-- (row_product A k n μ) z) (omega (arith, sum_fits, small))

module _ (last : ℕ) (A β : List ℤ) (fitting : Fitting (system last A β)) where
  rows_fit : RowsFit A (parts last)
  rows_fit k below l before =
      subst (λ z. nat_abs z ≤ entry_limit) (entry_at last A β k l below (omega arith)) (fitting.entries k below l before)

  pub diagonal_from : (k : ℕ) → k < parts last → pos 1 ≤ℤ cell A k k
  diagonal_from k below = subst (λ z. pos 1 ≤ℤ z) (entry_at last A β k k below below) (fitting.diagonal k below)

  pub diagonal_fits : (k : ℕ) → k < parts last → nat_abs (cell A k k) ≤ diagonal_limit
  diagonal_fits k below =
      let from : pos 1 ≤ℤ cell A k k = diagonal_from k below in
      let is : entry (system last A β) k k ≡ cell A k k = entry_at last A β k k below below in
      let to : cell A k k ≤ℤ pos diagonal_limit = subst (λ z. z ≤ℤ pos diagonal_limit) is (fitting.diagonal_to k below) in
      simp linear (omega zarith)

  pub cell_fits : (k l : ℕ) → k < parts last → l < parts last → nat_abs (cell A k l) ≤ diagonal_limit
  cell_fits k l k-below l-below = by_place (ℕ_discrete l k)
    where
      by_place : Dec (l ≡ k) → nat_abs (cell A k l) ≤ diagonal_limit
      by_place (yes here) = subst (λ i. nat_abs (cell A k i) ≤ diagonal_limit) (sym here) (diagonal_fits k k-below)
      by_place (no apart) = omega (arith, off_diagonal A (parts last) rows_fit k l k-below l-below apart)

  pub residue_fits : (μ : List ℤ) → Inside (parts last) μ → (k : ℕ) → k < parts last
      → nat_abs (row_product A k (parts last) μ -ℤ part β k) ≤ residue_limit
  residue_fits μ inside k below =
      let row = row_fits A (parts last) rows_fit (omega (arith, fitting.years)) k below (diagonal_fits k below) in
      difference_fits A μ k (parts last) row inside (part β k) (fitting.right_hand k below)
