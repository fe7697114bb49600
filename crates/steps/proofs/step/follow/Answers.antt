-- The residues follow a change of one part. Shown: the residues below l have the column's product added, and those from l on have not; up to the diagonal the
-- column is read by its mirror. Assumes nothing.
use Prim.Native.Nat.{ℕ, ◌+◌, ◌*◌, ◌<◌, ◌^◌, ◌≤◌}
use mathlib.Core.List.{List}
use mathlib.Core.Path.{◌≡◌, sym, ap, ◌∙◌, subst, ap₂}
use native.Mathlib.Omega.{arith}
use lib.Dec.{leb}
use lib.IntN.{ℤ, ◌+ℤ◌, ◌*ℤ◌, +ℤ_idr, nat_abs}
use mir.Syntax.{w64}
use mir.Val.{SFits}
use mir.Facts.{to_z-of_z}
use Rattle.integers.specs.SumRange.{only}
use Rattle.definitions.specs.Words.{part}
use Rattle.chain.specs.Arrays.{cell, cell_at, cell_mirrored}
use Rattle.chain.specs.Turned.{Turned, turned_next}
use Rattle.steps.specs.Step.{Follows}
use native.Mathlib.Decide.{dec_le}
use native.Mathlib.Nat.{le_refl}
use borrow.Author.Tests.{le-leb, lt-leb}
use lib.Signed.{mag}
use Rattle.integers.specs.Size.{fits, kept, nat_abs-*-≤}
use Rattle.definitions.specs.Layout.{parts}
use Rattle.integers.specs.Bits.{stored, read, same}
use Rattle.steps.proofs.step.follow.Goals as goal
use Rattle.steps.proofs.step.follow.Goals.{After-loop-l, In-loop-l, In-loop-l-2}

-- one entry, as the code reads it: y is the number of the matrix
record Entry (last : ℕ) (A v : List ℤ) (k : ℕ) (d : ℤ) (l : ℕ) (y : ℤ) : Type 0 where
  asked : Follows last A v k d
  change_fits : SFits w64 d
  below : l < parts last
  is : y ≡ cell A l k

module _ {last : ℕ} {A v : List ℤ} {k : ℕ} {d : ℤ} {l : ℕ} {y : ℤ} (e : Entry last A v k d l y) where
  product : stored y *ℤ stored d ≡ cell A l k *ℤ d
  product = ap₂ ◌*ℤ◌ (ap stored e.is ∙ read (cell A l k) (omega (arith, e.asked.column l e.below))) (to_z-of_z e.change_fits)

  product_small : nat_abs (cell A l k *ℤ d) < 2 ^ 63
  product_small = omega (arith, nat_abs-*-≤ (cell A l k) d (e.asked.column l e.below) e.asked.change)

  product_fits : SFits w64 (stored y *ℤ stored d)
  product_fits = fits product product_small

  -- added to its residue, x as it stands in the array
  module _ {x : ℤ} (told : mag x < 2 ^ 63) (old : x ≡ part v l) where
    total : stored x +ℤ stored (stored y *ℤ stored d) ≡ part v l +ℤ cell A l k *ℤ d
    total = ap₂ ◌+ℤ◌ (same x told ∙ old) (kept w64 product product_small)

    total_fits : SFits w64 (stored x +ℤ stored (stored y *ℤ stored d))
    total_fits = fits total (e.asked.sums l e.below)

    total_kept : stored (stored x +ℤ stored (stored y *ℤ stored d)) ≡ part v l +ℤ cell A l k *ℤ stored d
    total_kept = kept w64 total (e.asked.sums l e.below) ∙ ap (λ z. part v l +ℤ cell A l k *ℤ z) (sym (to_z-of_z e.change_fits))

-- the residues m after the first loop, which are those of the parts before k
module _ (v : List ℤ) (gain : ℕ → ℤ) {m : List ℤ} {k : ℕ} (first : Turned k (λ i. part v i +ℤ gain i) (part v) m) where
  both : (i : ℕ) → part m i +ℤ only (leb k i) (gain i) ≡ part v i +ℤ gain i
  both i = by_side (dec_le k i)
    where
      by_side : Dec (k ≤ i) → part m i +ℤ only (leb k i) (gain i) ≡ part v i +ℤ gain i
      by_side (yes from) = ap₂ (λ r t. r +ℤ only t (gain i)) (first.rest i from) (le-leb k i from)
      by_side (no below) =
          let before : i < k = omega (arith, below) in
          ap (λ t. part m i +ℤ only t (gain i)) (lt-leb k i before) ∙ +ℤ_idr (part m i) ∙ first.front i before

-- up to the diagonal
module _ (c : In-loop-l) where
  mirrored : Entry c.args.last c.args.matrix.now c.args.residues.now c.args.k c.args.change c.loop-l.l
      (part c.args.matrix.now (31 * c.args.k + c.loop-l.l))
  mirrored = record {
    asked = c.requires;
    change_fits = c.ranges.change;
    below = omega (arith, c.loop-l-test.true, c.requires.below);
    is = sym (cell_at c.args.matrix.now c.args.k c.loop-l.l (omega (arith, c.loop-l-test.true)))
        ∙ cell_mirrored c.args.matrix.now c.args.k c.loop-l.l;
  }

  mirrored_old : part c.loop-l.residues c.loop-l.l ≡ part c.args.residues.now c.loop-l.l
  mirrored_old = c.loop-l.invariant.rest c.loop-l.l (le_refl c.loop-l.l)

pub overflow_mul-residues-in-loop-l : goal.overflow_mul-residues-in-loop-l
overflow_mul-residues-in-loop-l c = product_fits (mirrored (goal.at.overflow_mul-residues-in-loop-l c).In-loop-l)

pub overflow_add-residues-in-loop-l : goal.overflow_add-residues-in-loop-l
overflow_add-residues-in-loop-l c =
    let at = (goal.at.overflow_add-residues-in-loop-l c).In-loop-l in total_fits (mirrored at) (omega arith) (mirrored_old at)

pub loop-l-preserved : goal.loop-l-preserved
loop-l-preserved c =
    let at = (goal.at.loop-l-preserved c).In-loop-l in
    turned_next c.loop-l.invariant (omega (arith, c.loop-l-test.true, c.requires.below, c.requires.years))
    (total_kept (mirrored at) (omega arith) (mirrored_old at))

-- the first loop is over
first_done : (c : After-loop-l)
    → Turned c.args.k (λ i. part c.args.residues.now i +ℤ cell c.args.matrix.now i c.args.k *ℤ stored c.args.change)
    (part c.args.residues.now) c.loop-l.residues
first_done c =
    let all : c.loop-l.l ≡ c.args.k = omega (arith, c.loop-l.auto.l-end, c.loop-l-test.false) in
    subst
    (λ n. Turned n (λ i. part c.args.residues.now i +ℤ cell c.args.matrix.now i c.args.k *ℤ stored c.args.change) (part c.args.residues.now) c.loop-l.residues)
    all
    c.loop-l.invariant

-- from the diagonal on
module _ (c : In-loop-l-2) where
  as_is : Entry c.args.last c.args.matrix.now c.args.residues.now c.args.k c.args.change c.loop-l-2.l
      (part c.args.matrix.now (31 * c.loop-l-2.l + c.args.k))
  as_is = record {
    asked = c.requires;
    change_fits = c.ranges.change;
    below = c.loop-l-2-test.true;
    is = sym (cell_at c.args.matrix.now c.loop-l-2.l c.args.k c.loop-l-2.auto.l);
  }

  as_is_old : Turned c.args.k (λ i. part c.args.residues.now i +ℤ cell c.args.matrix.now i c.args.k *ℤ stored c.args.change)
      (part c.args.residues.now) c.loop-l.residues
      → part c.loop-l-2.residues c.loop-l-2.l ≡ part c.args.residues.now c.loop-l-2.l
  as_is_old first = c.loop-l-2.invariant.rest c.loop-l-2.l (le_refl c.loop-l-2.l) ∙ first.rest c.loop-l-2.l c.loop-l-2.auto.l

pub overflow_mul-residues-in-loop-l-2-2 : goal.overflow_mul-residues-in-loop-l-2-2
overflow_mul-residues-in-loop-l-2-2 c = product_fits (as_is (goal.at.overflow_mul-residues-in-loop-l-2-2 c).In-loop-l-2)

pub overflow_add-residues-in-loop-l-2-2 : goal.overflow_add-residues-in-loop-l-2-2
overflow_add-residues-in-loop-l-2-2 c =
    let at = goal.at.overflow_add-residues-in-loop-l-2-2 c in
    total_fits (as_is at.In-loop-l-2) (omega arith) (as_is_old at.In-loop-l-2 (first_done at.After-loop-l))

pub loop-l-2-preserved : goal.loop-l-2-preserved
loop-l-2-preserved c =
    let at = goal.at.loop-l-2-preserved c in
    let first = first_done at.After-loop-l in
    turned_next c.loop-l-2.invariant (omega (arith, c.loop-l-2-test.true, c.requires.years))
    (total_kept (as_is at.In-loop-l-2) (omega arith) (as_is_old at.In-loop-l-2 first) ∙ sym (both _ _ first c.loop-l-2.l))
