use Rattle.std.proofs.Common.{arith}
use Rattle.layout.specs.Checks.{signed_run}
use Rattle.layout.specs.CheckLaws.{left_none, left_next, left_bad}
use Rattle.layout.proofs.checks.check_parts.Goals as goal

pub returns-in_err-read_part : goal.returns-in_err-read_part
unfolding signed_run
returns-in_err-read_part c =
    let found = c.in_err-read_part.ensures in
    let bad = left_bad c.loop-k.invariant c.loop-k-test.true found.1 in
    grind (arith, bad, found.0)

pub loop-k-preserved : goal.loop-k-preserved
loop-k-preserved c = left_next c.loop-k.invariant c.loop-k-test.true c.in_ok-read_part.ensures.1

pub returns : goal.returns
unfolding signed_run
returns c = left_none c.loop-k.invariant c.loop-k-test.false
