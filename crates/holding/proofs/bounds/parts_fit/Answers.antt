-- `bounds::parts_fit` meets its contract. The loop's invariant: the parts before k fit.
use Prim.Native.Nat.{ℕ, ◌+◌, ◌*◌, ◌<◌}
use mathlib.Core.Path.{sym, ◌∙◌, subst₃}
use mathlib.Core.List.{List}
use native.Mathlib.Nat.{le_refl}
use native.Mathlib.Omega.{arith}
use lib.IntN.{ℤ}
use lib.ListN.{get_or}
use Rattle.definitions.specs.Words.{part}
use Rattle.chain.specs.Arrays.{cell, cell_at}
use Rattle.integers.specs.Bits.{same}
use Rattle.chain.specs.Decides.{Decides, decided_yes, decided_no}
use Rattle.chain.specs.Turned.{here_or_before}
use Rattle.holding.specs.Bounds.{PartFits}
use Rattle.holding.proofs.bounds.parts_fit.Goals as goal
use Rattle.holding.proofs.bounds.parts_fit.Goals.{After-part_fits, In-loop-k}

pub loop-k-init : goal.loop-k-init
loop-k-init c = λ j none. absurd (omega arith)

few : (c : In-loop-k) → c.loop-k.k < 31
few c = omega (arith, c.loop-k-test.true, c.requires.few)

-- the part's numbers, as they are read
module _ (c : After-part_fits) where
  abbrev k : ℕ
  k = c.loop-k.k

  abbrev A : List ℤ
  A = c.args.matrix.now

  abbrev b : List ℤ
  b = c.args.right_hand.now

  abbrev μ : List ℤ
  μ = c.args.mean.now

  abbrev FitsAt : ℕ → Type 0
  FitsAt j = PartFits (get_or c.args.own.now j 0) (cell A j j) (part b j) (part μ j)

  decided : Decides (FitsAt k) c.part_fits.result
  decided =
      subst₃ (λ d r m. Decides (PartFits (get_or c.args.own.now k 0) d r m) c.part_fits.result)
      (same (part A (31 * k + k)) c.part_fits-arg-in-loop-k-1.given ∙ sym (cell_at A k k (le_refl k)))
      (same (part b k) c.part_fits-arg-in-loop-k-2-1.given)
      (same (part μ k) c.part_fits-arg-in-loop-k-3-1.given)
      c.part_fits.ensures

pub offset_bounds-own-k : goal.offset_bounds-own-k
offset_bounds-own-k c = omega (arith, few c)

pub bounds-own-k : goal.bounds-own-k
bounds-own-k c = omega (arith, few (goal.at.bounds-own-k c).In-loop-k)

pub overflow_mul-k : goal.overflow_mul-k
overflow_mul-k c = omega (arith, few (goal.at.overflow_mul-k c).In-loop-k)

pub overflow_add-k : goal.overflow_add-k
overflow_add-k c = omega (arith, few (goal.at.overflow_add-k c).In-loop-k)

pub offset_bounds-matrix-k : goal.offset_bounds-matrix-k
offset_bounds-matrix-k c = omega (arith, few (goal.at.offset_bounds-matrix-k c).In-loop-k)

pub bounds-matrix-k : goal.bounds-matrix-k
bounds-matrix-k c = omega (arith, few (goal.at.bounds-matrix-k c).In-loop-k)

pub offset_bounds-right_hand-k : goal.offset_bounds-right_hand-k
offset_bounds-right_hand-k c = omega (arith, few (goal.at.offset_bounds-right_hand-k c).In-loop-k)

pub bounds-right_hand-k : goal.bounds-right_hand-k
bounds-right_hand-k c = omega (arith, few (goal.at.bounds-right_hand-k c).In-loop-k)

pub offset_bounds-mean-k : goal.offset_bounds-mean-k
offset_bounds-mean-k c = omega (arith, few (goal.at.offset_bounds-mean-k c).In-loop-k)

pub bounds-mean-k : goal.bounds-mean-k
bounds-mean-k c = omega (arith, few (goal.at.bounds-mean-k c).In-loop-k)

pub returns-then-not-part_fits : goal.returns-then-not-part_fits
returns-then-not-part_fits c =
    let after_part_fits = (goal.at.returns-then-not-part_fits c).After-part_fits in
    decided_no (λ fits. (decided after_part_fits).when_no c.if-not-part_fits.true (fits (k after_part_fits) c.loop-k-test.true))

pub loop-k-preserved : goal.loop-k-preserved
loop-k-preserved c =
    let after_part_fits = (goal.at.loop-k-preserved c).After-part_fits in
    let y = c.loop-k in
    here_or_before (FitsAt after_part_fits) y.k ((decided after_part_fits).when_yes c.if-not-part_fits.false) y.invariant

pub returns : goal.returns
returns c = let y = c.loop-k in decided_yes (λ j below. y.invariant j (omega arith))
