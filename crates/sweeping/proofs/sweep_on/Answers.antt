-- `sweep_on` meets its contract: the mean that is held is tested before the first sweep, and what is held afterwards is the
-- mean and the total of the sweeps.
use Prim.Native.Nat.{◌<◌}
use native.Mathlib.Omega.{arith}
use Rattle.definitions.specs.Sweep.{sweep_limit}
use Rattle.chain.specs.Judge.{own_fits}
use Rattle.holding.specs.State.{Held, held_at}
use Rattle.sweeping.specs.SweepCall.{settled, spent, done, still_going}
use Rattle.sweeping.proofs.sweep_on.Goals as goal
use Rattle.sweeping.proofs.sweep_on.Goals.{After-sweeps-swept, Start}

-- the session that is lent
abbrev S : Start → Held
S s = let a = s.args in held_at a.last a.closeness a.total.now a.own.now a.matrix.now a.right_hand.now a.mean.now

pub passes-requires : goal.passes-requires
passes-requires c = own_fits (S (goal.at.passes-requires c).Start).figures c.requires.fits.fitting

pub returns-then-passes : goal.returns-then-passes
returns-then-passes c =
    settled (S (goal.at.returns-then-passes c).Start) c.args.n c.requires c.passes.ensures c.if-passes.true

pub returns-then-before-ge-SWEEP_LIMIT : goal.returns-then-before-ge-SWEEP_LIMIT
returns-then-before-ge-SWEEP_LIMIT c =
    rw c.at.ensures
    (spent (S (goal.at.returns-then-before-ge-SWEEP_LIMIT c).Start) c.args.n c.requires c.passes.ensures c.if-passes.false
    (omega (arith, c.if-before-ge-SWEEP_LIMIT.true)))

pub sweeps-swept-requires : goal.sweeps-swept-requires
sweeps-swept-requires c = let asked = c.requires in record { fitting = asked.fits.fitting; holds = asked.holds_mean }

-- sweeps are run
module _ (c : After-sweeps-swept) where
  more : (S c.before.before.before.before.before.before.before).total < sweep_limit
  more = omega (arith, c.if-before-ge-SWEEP_LIMIT.false)

pub returns-then-swept : goal.returns-then-swept
returns-then-swept c =
    done (S (goal.at.returns-then-swept c).Start) c.args.n c.requires c.passes.ensures c.if-passes.false
    (more (goal.at.returns-then-swept c).After-sweeps-swept)
    c.sweeps-swept.ensures c.if-swept.true

pub returns : goal.returns
returns c =
    still_going (S (goal.at.returns c).Start) c.args.n c.requires c.passes.ensures c.if-passes.false (more (goal.at.returns c).After-sweeps-swept)
    c.sweeps-swept.ensures c.if-swept.false
