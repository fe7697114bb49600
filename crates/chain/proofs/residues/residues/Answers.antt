-- The residues of a mean. Shown: the rows below k fit, and the residues of the parts below k have their first k products. Assumes nothing.
use Prim.Native.Nat.{ℕ, ◌+◌, ◌*◌, ◌^◌, ◌≤◌, ◌<◌}
use mathlib.Core.Path.{◌≡◌, refl, sym, ap, ap₂, ◌∙◌, subst}
use mathlib.Core.List.{List, [], ◌∷◌}
use native.Mathlib.Nat.{le_refl}
use native.Mathlib.Omega.{arith}
use lib.IntN.{ℤ, pos, nat_abs, ◌+ℤ◌, ◌-ℤ◌, ◌*ℤ◌}
use lib.ListN.{set}
use mir.Syntax.{w64}
use Rattle.integers.specs.Size.{fits, kept, nat_abs-*-≤}
use Rattle.integers.specs.Solver.{ring, ◌⊞◌, ◌⊟◌, ◌≐◌}
use Rattle.integers.specs.Sum.{sum_next}
use Rattle.integers.specs.Total.{sizes, total_next}
use Rattle.definitions.specs.Words.{part}
use Rattle.definitions.specs.Layout.{parts}
use Rattle.laws.proofs.Filled.{empty_at}
use Rattle.chain.specs.Arrays.{mean_of, cell, cell_at, cell_mirrored, row_product}
use Rattle.integers.specs.Bits.{stored, read}
use Rattle.chain.specs.Fitting.{Inside, row_limit, residue_limit}
use Rattle.chain.specs.Residues.{OfMean, RowFits, RowsFit}
use Rattle.chain.specs.Sizes.{row_fits, sum_fits, difference_fits, mean_at_lem, residue_at_lem}
use Rattle.chain.specs.Turned.{Turned, turned_none, turned_next, turned_as, here_or_before}
use Rattle.chain.proofs.residues.residues.Invariants.{so_far_of}
use Rattle.chain.proofs.residues.residues.Goals as goal
use Rattle.chain.proofs.residues.residues.Goals.{In_ok-sum}

-- the first n rows fit
module _ {last : ℕ} {A b μ : List ℤ} (h : OfMean last A b μ) (n : ℕ) (few : n ≤ parts last) (rows : RowsFit A n) where
  inside : Inside n μ
  inside = record { small = λ i below. h.inside.small i (omega arith) }

  row_small : (i : ℕ) → i < n → sizes n (cell A i) ≤ row_limit
  row_small i below = row_fits A n rows (omega (arith, h.years)) i below (h.diagonal i (omega arith))

  products_small : (i : ℕ) → i < n → nat_abs (row_product A i n μ) < 2 ^ 63
  products_small i below = omega (arith, sum_fits A μ i n (row_small i below) inside)

  so_far_small : (i : ℕ) → i < n → nat_abs (so_far_of A b μ n i) ≤ residue_limit
  so_far_small i below = difference_fits A μ i n (row_small i below) inside (part b i) (h.right_hand i (omega arith))

-- row k fits besides, and z is its sum up to the diagonal
record Reached (last : ℕ) (A b μ : List ℤ) (k : ℕ) (z : ℤ) : Type 0 where
  asked : OfMean last A b μ
  below : k < parts last
  rows : RowsFit A (k + 1)
  sums : z ≡ row_product A k k μ

module _ {last : ℕ} {A b μ : List ℤ} {k : ℕ} {z : ℤ} (h : Reached last A b μ k z) where
  sum_read : stored z ≡ row_product A k k μ
  sum_read = ap stored h.sums ∙ read (row_product A k k μ) (omega (arith, sum_fits A μ k k up_to_diagonal inside_before))
    where
      up_to_diagonal : sizes k (cell A k) ≤ row_limit
      up_to_diagonal =
          omega (arith, total_next k (λ l. nat_abs (cell A k l)), row_small h.asked (k + 1) (omega (arith, h.below)) h.rows k (omega arith))

      inside_before : Inside k μ
      inside_before = inside h.asked k (omega (arith, h.below)) (λ i i-below. h.rows i (omega arith))

  product : stored (part A (31 * k + k)) *ℤ stored (part μ k) ≡ cell A k k *ℤ part μ k
  product =
      ap₂ ◌*ℤ◌ (ap stored (sym (cell_at A k k (le_refl k))) ∙ read (cell A k k) (omega (arith, h.asked.diagonal k h.below)))
      (read (part μ k) (omega (arith, h.asked.inside.small k h.below)))

  product_small : nat_abs (cell A k k *ℤ part μ k) < 2 ^ 63
  product_small =
      omega (arith, nat_abs-*-≤ (cell A k k) (part μ k) (h.asked.diagonal k h.below) (h.asked.inside.small k h.below))

  -- the row's sum as the code adds it up, and with the right-hand side taken off
  abbrev added : ℤ
  added = stored z +ℤ stored (stored (part A (31 * k + k)) *ℤ stored (part μ k))

  abbrev taken_off : ℤ
  taken_off = stored added -ℤ stored (part b k)

  total : added ≡ row_product A k (k + 1) μ
  total = ap₂ ◌+ℤ◌ sum_read (kept w64 product product_small) ∙ sym (sum_next k (λ l. cell A k l *ℤ part μ l))

  total_small : nat_abs (row_product A k (k + 1) μ) < 2 ^ 63
  total_small = products_small h.asked (k + 1) (omega (arith, h.below)) h.rows k (omega arith)

  difference : taken_off ≡ so_far_of A b μ (k + 1) k
  difference = ap₂ ◌-ℤ◌ (kept w64 total total_small) (read (part b k) (omega (arith, h.asked.right_hand k h.below)))

  difference_small : nat_abs (so_far_of A b μ (k + 1) k) < 2 ^ 63
  difference_small = omega (arith, so_far_small h.asked (k + 1) (omega (arith, h.below)) h.rows k (omega arith))

  -- the residues of the parts before k, with the mirrored products of row k
  module _ {v w : List ℤ} (so_far : Turned k (so_far_of A b μ k) (λ i. pos 0) v)
      (mirrored : Turned k (λ i. part v i +ℤ cell A k i *ℤ part μ k) (part v) w) where
    with_mirrored : (i : ℕ) → part v i ≡ so_far_of A b μ k i → part v i +ℤ cell A k i *ℤ part μ k ≡ so_far_of A b μ (k + 1) i
    with_mirrored i is =
        let before : ℤ = row_product A i k μ in
        let more : ℤ = cell A i k *ℤ part μ k in
        ap₂ (λ r a. r +ℤ a *ℤ part μ k) is (cell_mirrored A k i)
        ∙ ring (before ∷ part b i ∷ more ∷ []) (λ s b m. (s ⊟ b) ⊞ m ≐ (s ⊞ m) ⊟ b) tt
        ∙ ap (λ s. s -ℤ part b i) (sym (sum_next k (λ l. cell A i l *ℤ part μ l)))

    next : Turned (k + 1) (so_far_of A b μ (k + 1)) (λ i. pos 0) (set w k (stored taken_off))
    next =
        turned_next (turned_as mirrored (λ i i-below. with_mirrored i (so_far.front i i-below)) so_far.rest)
        (omega (arith, h.below, h.asked.years)) (kept w64 difference difference_small)

pub loop-k-init : goal.loop-k-init
loop-k-init c = (λ i none. absurd (omega arith), turned_none refl (λ i. empty_at 31 i (pos 0)))

pub row_times-requires : goal.row_times-requires
row_times-requires c =
    let at = c.loop-k in
    let small-so-far = so_far_small c.requires at.k (omega (arith, c.loop-k-test.true)) at.invariant.0 in
    record {
      few = omega (arith, c.loop-k-test.true, c.requires.years);
      inside = record { small = λ i i-below. c.requires.inside.small i (omega (arith, c.loop-k-test.true)) };
      long = at.invariant.1.long;
      small = λ i i-below. subst (λ r. nat_abs r ≤ residue_limit) (sym (at.invariant.1.front i i-below)) (small-so-far i i-below);
    }

-- a row that fits
reached : (c : In_ok-sum) → Reached c.args.last c.args.matrix.now c.args.right_hand.now c.args.mean.now c.loop-k.k c.in_ok-sum.sum
reached c = record {
  asked = c.requires;
  below = c.loop-k-test.true;
  rows = here_or_before (RowFits c.args.matrix.now) c.loop-k.k c.in_ok-sum.ensures.fits c.loop-k.invariant.0;
  sums = c.in_ok-sum.ensures.is;
}

pub overflow_mul-found-in-loop-k : goal.overflow_mul-found-in-loop-k
overflow_mul-found-in-loop-k c = let h = reached (goal.at.overflow_mul-found-in-loop-k c).In_ok-sum in fits (product h) (product_small h)

pub overflow_add-found-in-loop-k : goal.overflow_add-found-in-loop-k
overflow_add-found-in-loop-k c = let h = reached (goal.at.overflow_add-found-in-loop-k c).In_ok-sum in fits (total h) (total_small h)

pub overflow_sub-found : goal.overflow_sub-found
overflow_sub-found c = let h = reached (goal.at.overflow_sub-found c).In_ok-sum in fits (difference h) (difference_small h)

pub loop-k-preserved : goal.loop-k-preserved
loop-k-preserved c =
    let h = reached (goal.at.loop-k-preserved c).In_ok-sum in (h.rows, next h c.loop-k.invariant.1 c.in_ok-sum.ensures.mirrored)

pub returns : goal.returns
returns c =
    let at = c.loop-k in
    let A = c.args.matrix.now in
    let b = c.args.right_hand.now in
    let μ = c.args.mean.now in
    let all : at.k ≡ parts c.args.last = omega (arith, at.auto.k-end, c.loop-k-test.false) in
    record {
      fit = λ k below. at.invariant.0 k (omega arith);
      are = record {
        at = λ k below. at.invariant.1.front k (omega arith)
            ∙ ap₂ (λ n y. row_product A k n μ -ℤ y) all (sym (mean_at_lem c.args.last b k below))
            ∙ sym (residue_at_lem c.args.last A (mean_of c.args.last b) μ k below);
      };
    }
