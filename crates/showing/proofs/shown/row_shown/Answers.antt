-- `shown::row_shown` meets its contract. The loop's invariant: the entries of the row so far fit, and are put in both halves.
use Prim.Native.Nat.{◌≤◌}
use mathlib.Core.Path.{sym, subst, ◌∙◌}
use native.Mathlib.Omega.{arith}
use lib.IntN.{nat_abs}
use Rattle.chain.specs.Arrays.{cell_at}
use Rattle.integers.specs.Bits.{same}
use Rattle.chain.specs.Decides.{Decides}
use Rattle.chain.specs.Fitting.{entry_limit}
use Rattle.chain.specs.Turned.{here_or_before}
use Rattle.showing.specs.Mirrored.{mirrored_next}
use Rattle.showing.proofs.shown.row_shown.Invariants.{FitsAt}
use Rattle.showing.proofs.shown.row_shown.Goals as goal
use Rattle.showing.proofs.shown.row_shown.Goals.{After-entry_fits}

-- whether the entry fits
decided : (c : After-entry_fits) → Decides (FitsAt c.args.matrix.now c.args.k c.loop-l.l) c.entry_fits.result
decided c =
    subst (λ z. Decides (nat_abs z ≤ entry_limit) c.entry_fits.result)
    (same _ (omega arith) ∙ sym (cell_at c.args.matrix.now c.args.k c.loop-l.l (omega (arith, c.loop-l-test.true))))
    c.entry_fits.ensures

pub returns-then-not-entry_fits : goal.returns-then-not-entry_fits
returns-then-not-entry_fits c = λ all.
    (decided (goal.at.returns-then-not-entry_fits c).After-entry_fits).when_no c.if-not-entry_fits.true (all c.loop-l.l c.loop-l-test.true)

pub loop-l-preserved : goal.loop-l-preserved
loop-l-preserved c =
    let at = c.loop-l in
    let here = (decided (goal.at.loop-l-preserved c).After-entry_fits).when_yes c.if-not-entry_fits.false in (
      here_or_before (FitsAt c.args.matrix.now c.args.k) at.l here at.invariant.0,
      mirrored_next c.requires.few c.loop-l-test.true at.invariant.1 (same _ (omega arith)),
    )
