-- The sweeps of a call. Shown: what is left to run gives the whole result, and the working mean has its residues throughout (`Running`). Assumes nothing.
use Rattle.std.proofs.Common.{◌≡◌, ◌+◌, ◌-◌, arith}
use Rattle.chain.specs.declared.arrays.Figures.{Figures}
use Rattle.chain.specs.Arrays.{figures_at}
use Rattle.chain.specs.Judge.{own_fits}
use Rattle.steps.specs.Sweeps.{sweep_asks, run_first, run_settled, run_spent, run_next, run_out}
use Rattle.steps.proofs.sweep.sweeps.Goals as goal
use Rattle.steps.proofs.sweep.sweeps.Goals.{Start, then-passed-via-then-passed, then-passed-via-else-passed+then-run-ge-SWEEP_LIMIT}

-- the figures that are lent
abbrev F : Start → Figures
F s = figures_at s.args.last s.args.closeness s.args.own.now s.args.matrix.now s.args._right_hand.now

pub passes-passed-requires : goal.passes-passed-requires
passes-passed-requires c = own_fits (F (goal.at.passes-passed-requires c).Start) c.requires.fitting

pub loop-init : goal.loop-init
loop-init c = let all : c.args.n - 0 ≡ c.args.n = omega arith in rw all (run_first c.args.total c.args.n c.requires c.passes-passed.ensures)

pub one_sweep-current-requires : goal.one_sweep-current-requires
one_sweep-current-requires c =
    sweep_asks (F (goal.at.one_sweep-current-requires c).Start) c.loop.current c.requires.fitting c.loop.invariant.holds

pub passes-passed-requires-in-loop : goal.passes-passed-requires-in-loop
passes-passed-requires-in-loop c = own_fits (F (goal.at.passes-passed-requires-in-loop c).Start) c.requires.fitting

pub loop-preserved : goal.loop-preserved
loop-preserved c =
    let one_less : c.args.n - (c.loop.counter + 1) ≡ c.args.n - c.loop.counter - 1 = omega arith in
    rw one_less
    (run_next c.loop.invariant (omega arith) c.if-passed.false c.if-run-ge-SWEEP_LIMIT.false
    c.one_sweep-current.ensures c.passes-passed-in-loop.ensures)

pub returns-then-passed : goal.returns-then-passed
returns-then-passed c =
    elim c.then-passed.branch [
      | then-passed-via-then-passed w ↦ run_settled c.loop.invariant w.if-passed.true
      | then-passed-via-else-passed+then-run-ge-SWEEP_LIMIT w ↦ run_spent c.loop.invariant w.if-passed.false w.if-run-ge-SWEEP_LIMIT.true
    ]

pub returns-after-loop : goal.returns-after-loop
returns-after-loop c = run_out c.loop.invariant (omega arith)
