-- `figures::matrix::fill_run` meets its contract. The loop's invariant: the cells passed are filled, and those before the run are as
-- they were.
use Prim.Native.Nat.{◌+◌, ◌<◌}
use mathlib.Core.Path.{ap, ◌∙◌}
use native.Mathlib.Omega.{arith}
use Rattle.definitions.specs.Words.{part}
use Rattle.integers.specs.Bits.{read}
use Rattle.figures.specs.EntryLaws.{stretch_none, stretch_next, stretch_to}
use Rattle.figures.proofs.matrix.fill_run.Goals as goal
use Rattle.figures.proofs.matrix.fill_run.Goals.{In-loop-n}

pub loop-n-init : goal.loop-n-init
loop-n-init c = stretch_none c.requires.long

inside : (c : In-loop-n) → c.args.at + c.loop-n.n < 961
inside c = omega (arith, c.loop-n-test.true, c.requires.room)

pub loop-n-preserved : goal.loop-n-preserved
loop-n-preserved c =
    let l = c.min in
    let small = c.requires.small l.result (omega (arith, l.ensures)) in
    stretch_next c.loop-n.invariant (inside (goal.at.loop-n-preserved c).In-loop-n)
    (read (part c.args.shares.now l.result) (omega (arith, small)) ∙ ap (part c.args.shares.now) l.ensures)

pub returns : goal.returns
returns c = stretch_to (omega arith) c.loop-n.invariant
