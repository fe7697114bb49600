-- `bounds::row_fits` meets its contract. The loop's invariant: the entries before l fit.
use Prim.Native.Nat.{ℕ, ◌+◌, ◌*◌, ◌≤◌, ◌<◌}
use mathlib.Core.Path.{sym, subst, ◌∙◌}
use mathlib.Core.List.{List}
use native.Mathlib.Omega.{arith}
use lib.IntN.{ℤ, nat_abs}
use Rattle.integers.specs.Bits.{same}
use Rattle.definitions.specs.Words.{part}
use Rattle.chain.specs.Arrays.{cell_at}
use Rattle.chain.specs.Decides.{Decides, decided_yes, decided_no}
use Rattle.chain.specs.Fitting.{entry_limit}
use Rattle.chain.specs.Turned.{here_or_before}
use Rattle.holding.proofs.bounds.row_fits.Invariants.{FitsAt}
use Rattle.holding.proofs.bounds.row_fits.Goals as goal
use Rattle.holding.proofs.bounds.row_fits.Goals.{After-entry_fits, In-loop-l}

pub overflow_mul-row : goal.overflow_mul-row
overflow_mul-row c = omega (arith, c.requires)

pub loop-l-init : goal.loop-l-init
loop-l-init c = λ i none. absurd (omega arith)

place : (c : In-loop-l) → 31 * c.args.k + c.loop-l.l < 961
place c = omega (arith, c.requires, c.loop-l-test.true)

pub overflow_add-entry : goal.overflow_add-entry
overflow_add-entry c = omega (arith, place c)

pub offset_bounds-matrix-row : goal.offset_bounds-matrix-row
offset_bounds-matrix-row c = omega (arith, place c)

pub bounds-matrix-row : goal.bounds-matrix-row
bounds-matrix-row c = place c

-- the entry, as it is read
module _ (c : After-entry_fits) where
  abbrev A : List ℤ
  A = c.args.matrix.now

  abbrev k : ℕ
  k = c.args.k

  abbrev l : ℕ
  l = c.loop-l.l

  decided : Decides (FitsAt A k l) c.entry_fits.result
  decided =
      subst (λ z. Decides (nat_abs z ≤ entry_limit) c.entry_fits.result)
      (same (part A (31 * k + l)) c.entry-1.given ∙ sym (cell_at A k l (omega (arith, c.loop-l-test.true))))
      c.entry_fits.ensures

pub returns-then-not-entry_fits : goal.returns-then-not-entry_fits
returns-then-not-entry_fits c =
    let after_entry_fits = (goal.at.returns-then-not-entry_fits c).After-entry_fits in
    decided_no (λ fits. (decided after_entry_fits).when_no c.if-not-entry_fits.true (fits (l after_entry_fits) c.loop-l-test.true))

pub loop-l-preserved : goal.loop-l-preserved
loop-l-preserved c =
    let after_entry_fits = (goal.at.loop-l-preserved c).After-entry_fits in
    let y = c.loop-l in
    here_or_before (FitsAt (A after_entry_fits) (k after_entry_fits)) y.l
    ((decided after_entry_fits).when_yes c.if-not-entry_fits.false) y.invariant

pub returns : goal.returns
returns c = let y = c.loop-l in decided_yes (λ i below. y.invariant i (omega (arith, c.loop-l-test.false)))
