-- `layout::checks::check_unsigned` meets its contract. The loop's invariant: the fields from k on give what all of them give. The measure is how many
-- are left. Assumes nothing.
use Prim.Native.Nat.{◌+◌, ◌≤◌}
use mathlib.Core.Bool.{Bool}
use mathlib.Core.Path.{◌≡◌, sym, ap, ◌∙◌}
use native.Mathlib.Omega.{arith}
use lib.ListN.{length}
use Rattle.definitions.specs.Layout.{unsigned}
use Rattle.layout.specs.Refusals.{number_of}
use Rattle.layout.specs.Checks.{allowed, unsigned_run}
use Rattle.fields.specs.Fields.{field_read, field_outside}
use Rattle.layout.specs.CheckLaws.{left_start, left_none, left_next, left_bad}
use Rattle.layout.proofs.checks.check_unsigned.Invariants.{place, good}
use Rattle.layout.proofs.checks.check_unsigned.Goals as goal
use Rattle.layout.proofs.checks.check_unsigned.Goals.{In-Some, In-loop-k}

pub loop-k-init : goal.loop-k-init
loop-k-init c =
    let a = c.args in
    let r = a.run in
    left_start (good a.s.now a.limits r.first r.stride) (number_of a.reason) (place r.first r.stride) r.count

inside : (c : In-loop-k)
    → place c.args.run.first c.args.run.stride c.loop-k.k + 8
    ≤ length c.args.s.now
inside c = c.requires c.loop-k.k c.loop-k-test.true

pub overflow_mul-at : goal.overflow_mul-at
overflow_mul-at c = omega (arith, inside c)

pub overflow_add-at : goal.overflow_add-at
overflow_add-at c = omega (arith, inside c)

pub returns-in_default : goal.returns-in_default
returns-in_default c =
    let a = c.args in
    let at = place a.run.first a.run.stride c.loop-k.k in
    absurd (omega (arith, inside (goal.at.returns-in_default c).In-loop-k, field_outside 8 at a.s.now c.unsigned_8.ensures c.in_default.is))

was_read : (c : In-Some)
    → let a = c.args in
    c.in-Some.v ≡ unsigned 8 (place a.run.first a.run.stride c.loop-k.k) a.s.now
was_read c =
    let a = c.args in
    let at = place a.run.first a.run.stride c.loop-k.k in
    field_read 8 at a.s.now c.unsigned_8.ensures c.in-Some.is

-- what `allows` answers of it
decided : (c : In-Some) (r : Bool) → r ≡ allowed c.args.limits c.in-Some.v
    → good c.args.s.now c.args.limits c.args.run.first c.args.run.stride c.loop-k.k ≡ r
decided c r is = ap (allowed c.args.limits) (sym (was_read c)) ∙ sym is

pub returns-then-not-allow : goal.returns-then-not-allow
unfolding unsigned_run
returns-then-not-allow c =
    rw c.at-then-not-allow.ensures (left_bad c.loop-k.invariant c.loop-k-test.true
    (decided (goal.at.returns-then-not-allow c).In-Some c.allow.result c.allow.ensures ∙ c.if-not-allow.true))

pub loop-k-preserved : goal.loop-k-preserved
loop-k-preserved c =
    left_next c.loop-k.invariant c.loop-k-test.true (decided (goal.at.loop-k-preserved c).In-Some c.allow.result c.allow.ensures ∙ c.if-not-allow.false)

pub returns : goal.returns
unfolding unsigned_run
returns c = left_none c.loop-k.invariant c.loop-k-test.false
