-- Row k up to its diagonal. Shown: the entries so far are in the bounds, the sum is that of their products, and the residues of the parts
-- so far have the mirrored products added. None of them wraps, since the entries and the mean are in the bounds. Assumes nothing.
use Prim.Native.Nat.{ℕ, ◌+◌, ◌*◌, ◌^◌, ◌≤◌, ◌<◌}
use mathlib.Core.Path.{◌≡◌, refl, sym, ◌∙◌, ap, ap₂, subst}
use mathlib.Core.List.{List}
use native.Mathlib.Nat.{le_refl, mul-le-mul_right}
use native.Mathlib.Omega.{arith}
use lib.IntN.{ℤ, nat_abs, ◌+ℤ◌, ◌*ℤ◌}
use mir.Syntax.{w64}
use mir.Val.{to_z}
use Rattle.integers.specs.Size.{fits, kept, nat_abs-+, nat_abs-*-≤}
use Rattle.integers.specs.Sum.{sum_zero, sum_next}
use Rattle.integers.specs.Total.{sum_size, total_bound}
use Rattle.definitions.specs.Words.{part}
use Rattle.definitions.specs.Refusals.{part_limit}
use Rattle.chain.specs.Arrays.{cell, cell_at, row_product}
use Rattle.integers.specs.Bits.{stored, read, same}
use Rattle.chain.specs.Decides.{Decides}
use Rattle.chain.specs.Fitting.{entry_limit}
use Rattle.chain.specs.Residues.{OfRow}
use Rattle.chain.specs.Turned.{turned_none, turned_next, here_or_before}
use Rattle.chain.proofs.residues.row_times.Goals as goal
use Rattle.chain.proofs.residues.row_times.Goals.{After-entry_fits, Else-not-entry_fits}

-- the row has come to its entry l, which is in the bounds as those before it are
record Reached (A μ v : List ℤ) (k l : ℕ) : Type 0 where
  asked : OfRow μ v k
  below : l < k
  entries : (i : ℕ) → i < l + 1 → nat_abs (cell A k i) ≤ entry_limit

module _ {A μ v : List ℤ} {k l : ℕ} (h : Reached A μ v k l) where
  entry : stored (part A (31 * k + l)) ≡ cell A k l
  entry = ap stored (sym (cell_at A k l (omega (arith, h.below)))) ∙ read (cell A k l) (omega (arith, h.entries l (omega arith)))

  product_size : (i j : ℕ) → i < l + 1 → j < k + 1 → nat_abs (cell A k i *ℤ part μ j) ≤ entry_limit * part_limit
  product_size i j i-below j-below = nat_abs-*-≤ (cell A k i) (part μ j) (h.entries i i-below) (h.asked.inside.small j j-below)

  -- the entry times part j
  product : (j : ℕ) → j < k + 1 → stored (part A (31 * k + l)) *ℤ stored (part μ j) ≡ cell A k l *ℤ part μ j
  product j j-below = ap₂ ◌*ℤ◌ entry (read (part μ j) (omega (arith, h.asked.inside.small j j-below)))

  product_small : (j : ℕ) → j < k + 1 → nat_abs (cell A k l *ℤ part μ j) < 2 ^ 63
  product_small j j-below = omega (arith, product_size l j (omega arith) j-below)

  -- added to the sum of the row
  module _ (t : ℕ) (e : to_z w64 t ≡ row_product A k l μ) where
    summed : to_z w64 t +ℤ stored (stored (part A (31 * k + l)) *ℤ stored (part μ l)) ≡ row_product A k (l + 1) μ
    summed =
        ap₂ ◌+ℤ◌ e (kept w64 (product l (omega (arith, h.below))) (product_small l (omega (arith, h.below))))
        ∙ sym (sum_next l (λ i. cell A k i *ℤ part μ i))

    summed_small : nat_abs (row_product A k (l + 1) μ) < 2 ^ 63
    summed_small =
        let bound = total_bound (l + 1) (entry_limit * part_limit) {f = λ i. nat_abs (cell A k i *ℤ part μ i)} in
        let products = bound (λ i below. product_size i i below (omega (arith, h.below))) in
        omega (arith, sum_size (l + 1) (λ i. cell A k i *ℤ part μ i), products, mul-le-mul_right (entry_limit * part_limit) few)
      where
        few : l + 1 ≤ 31
        few = omega (arith, h.below, h.asked.few)

  -- added to the residue of part l, x as it stands in the array
  module _ (x : ℤ) (old : x ≡ part v l) where
    mirrored : stored x +ℤ stored (stored (part A (31 * k + l)) *ℤ stored (part μ k)) ≡ part v l +ℤ cell A k l *ℤ part μ k
    mirrored =
        ap₂ ◌+ℤ◌ (ap stored old ∙ read (part v l) (omega (arith, h.asked.small l h.below)))
        (kept w64 (product k (omega arith)) (product_small k (omega arith)))

    mirrored_small : nat_abs (part v l +ℤ cell A k l *ℤ part μ k) < 2 ^ 63
    mirrored_small =
        let added = product_size l k (omega arith) (omega arith) in
        omega (arith, nat_abs-+ (part v l) (cell A k l *ℤ part μ k), h.asked.small l h.below, added)

pub loop-l-init : goal.loop-l-init
loop-l-init c = (λ i none. absurd (omega arith), sym (sum_zero _), turned_none c.requires.long (λ i. refl))

-- whether the entry is in the bounds
decided : (c : After-entry_fits) → Decides (nat_abs (cell c.args.matrix.now c.args.k c.loop-l.l) ≤ entry_limit) c.entry_fits.result
decided c =
    subst (λ z. Decides (nat_abs z ≤ entry_limit) c.entry_fits.result)
    (same (part c.args.matrix.now (31 * c.args.k + c.loop-l.l)) (omega arith)
    ∙ sym (cell_at c.args.matrix.now c.args.k c.loop-l.l (omega (arith, c.loop-l-test.true))))
    c.entry_fits.ensures

pub returns-then-not-entry_fits : goal.returns-then-not-entry_fits
returns-then-not-entry_fits c = λ entries.
    (decided (goal.at.returns-then-not-entry_fits c).After-entry_fits).when_no c.if-not-entry_fits.true (entries c.loop-l.l c.loop-l-test.true)

-- an entry in the bounds
module _ (c : Else-not-entry_fits) where
  reached : Reached c.args.matrix.now c.args.mean.now c.args.residues.now c.args.k c.loop-l.l
  reached =
      let InBounds : ℕ → Type 0 = λ i. nat_abs (cell c.args.matrix.now c.args.k i) ≤ entry_limit in
      let here = (decided c.before).when_yes c.if-not-entry_fits.false in
      record {
        asked = c.requires;
        below = c.loop-l-test.true;
        entries = here_or_before InBounds c.loop-l.l here c.loop-l.invariant.0;
      }

  -- the residue of its part, which is as it was
  old : part c.loop-l.residues c.loop-l.l ≡ part c.args.residues.now c.loop-l.l
  old = c.loop-l.invariant.2.rest c.loop-l.l (le_refl c.loop-l.l)

pub overflow_mul-sum : goal.overflow_mul-sum
overflow_mul-sum c =
    let h = reached (goal.at.overflow_mul-sum c).Else-not-entry_fits in
    let l = c.loop-l.l in
    fits (product h l (omega (arith, h.below))) (product_small h l (omega (arith, h.below)))

pub overflow_add-sum : goal.overflow_add-sum
overflow_add-sum c =
    let h = reached (goal.at.overflow_add-sum c).Else-not-entry_fits in
    let now-at = c.loop-l in
    fits (summed h now-at.sum-bits now-at.invariant.1) (summed_small h now-at.sum-bits now-at.invariant.1)

pub overflow_mul-residues : goal.overflow_mul-residues
overflow_mul-residues c =
    let h = reached (goal.at.overflow_mul-residues c).Else-not-entry_fits in
    let k = c.args.k in
    fits (product h k (omega arith)) (product_small h k (omega arith))

pub overflow_add-residues : goal.overflow_add-residues
overflow_add-residues c =
    let at = (goal.at.overflow_add-residues c).Else-not-entry_fits in
    fits (mirrored (reached at) _ (old at)) (mirrored_small (reached at) _ (old at))

pub loop-l-preserved : goal.loop-l-preserved
loop-l-preserved c =
    let at = (goal.at.loop-l-preserved c).Else-not-entry_fits in
    let h = reached at in
    let now-at = c.loop-l in (
      h.entries,
      kept w64 (summed h now-at.sum-bits now-at.invariant.1) (summed_small h now-at.sum-bits now-at.invariant.1),
      turned_next now-at.invariant.2 (omega (arith, h.below, c.requires.few))
          (kept w64 (mirrored h _ (old at)) (mirrored_small h _ (old at))),
    )
