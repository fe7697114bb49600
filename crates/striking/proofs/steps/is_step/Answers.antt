-- `striking::steps::is_step` meets its contract: what is left of the years is compared, so that no sum can wrap.
use mathlib.Core.Path.{sym}
use native.Mathlib.Omega.{arith}
use Rattle.striking.proofs.StepLaws.{step_late, step_x, step_z}
use Rattle.striking.proofs.steps.is_step.Goals as goal

pub returns-then-years-year : goal.returns-then-years-year
returns-then-years-year c = let a = c.args in sym (step_late a.last a.channel a.year a.column c.if-years-year.true)

pub returns-then-channel-eq0 : goal.returns-then-channel-eq0
returns-then-channel-eq0 c =
    let a = c.args in
    sym (step_x a.last a.channel a.year a.column (omega (arith, c.if-years-year.false)) c.if-channel-eq0.true)

pub returns : goal.returns
returns c =
    let a = c.args in
    sym (step_z a.last a.channel a.year a.column (omega (arith, c.if-years-year.false)) c.if-channel-eq0.false)
