-- `bounds::rows_fit` meets its contract. The loop's invariant: the rows before k fit.
use native.Mathlib.Omega.{arith}
use Rattle.chain.specs.Decides.{decided_yes, decided_no}
use Rattle.chain.specs.Residues.{RowFits}
use Rattle.chain.specs.Turned.{here_or_before}
use Rattle.holding.proofs.bounds.rows_fit.Goals as goal

pub loop-k-init : goal.loop-k-init
loop-k-init c = λ k none. absurd (omega arith)

pub row_fits-requires : goal.row_fits-requires
row_fits-requires c = omega (arith, c.loop-k-test.true, c.requires.few)

pub returns-then-not-row_fits : goal.returns-then-not-row_fits
returns-then-not-row_fits c =
    decided_no (λ fits. c.row_fits.ensures.when_no c.if-not-row_fits.true (fits c.loop-k.k c.loop-k-test.true))

pub loop-k-preserved : goal.loop-k-preserved
loop-k-preserved c =
    let y = c.loop-k in
    here_or_before (RowFits c.args.matrix.now) y.k
    (c.row_fits.ensures.when_yes c.if-not-row_fits.false) y.invariant

pub returns : goal.returns
returns c = let y = c.loop-k in decided_yes (λ k below. y.invariant k (omega (arith, c.loop-k-test.false)))
