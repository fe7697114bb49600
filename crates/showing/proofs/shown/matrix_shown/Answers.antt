-- `shown::matrix_shown` meets its contract. The loop's invariant: the rows so far fit, and are put in both halves.
use Prim.Native.Nat.{◌*◌}
use mathlib.Core.Path.{◌≡◌, sym, subst}
use native.Mathlib.Omega.{arith}
use Rattle.chain.specs.Residues.{RowsFit}
use Rattle.showing.specs.Mirrored.{Mirrored, mirrored_none, mirrored_is}
use Rattle.showing.proofs.shown.matrix_shown.Goals as goal

pub loop-k-init : goal.loop-k-init
loop-k-init c = (λ l none. absurd (omega arith), subst (Mirrored _ 0) (sym c.requires.empty) (mirrored_none _))

pub returns : goal.returns
returns c =
    let at = c.loop-k in
    let A = c.args.matrix.now in
    let all : at.k ≡ c.args.count = omega (arith, at.auto.k-end, c.loop-k-test.false) in (
      subst (RowsFit A) all at.invariant.0,
      mirrored_is c.args.count (subst (λ k. Mirrored A (31 * k) at.shown) all at.invariant.1),
    )
