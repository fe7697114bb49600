-- `striking::steps::part_of` meets its contract: the code's test is the definition's.
use mathlib.Core.Path.{refl}
use borrow.Author.Tests.{eq-eqb, ne_eqb}
use native.Mathlib.Omega.{arith}
use Rattle.striking.proofs.StepLaws.{placed}
use Rattle.striking.proofs.steps.part_of.Goals as goal

pub overflow_add-result-else-channel-eq0 : goal.overflow_add-result-else-channel-eq0
overflow_add-result-else-channel-eq0 c =
    let a = c.args in
    omega (arith, (placed a.last a.channel a.year a.column c.requires).in_years, c.requires.few)

pub returns-then-channel-eq0 : goal.returns-then-channel-eq0
returns-then-channel-eq0 c = rw (eq-eqb c.args.channel 0 c.if-channel-eq0.true) refl

pub returns-else-channel-eq0 : goal.returns-else-channel-eq0
returns-else-channel-eq0 c = rw (ne_eqb c.args.channel 0 c.if-channel-eq0.false) refl
