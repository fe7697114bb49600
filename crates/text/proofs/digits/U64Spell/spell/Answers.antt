-- The digits of a number, from the last to the first. The invariant: those that are written stand behind the ones that are left.
use native.Mathlib.Omega.{arith}
use Rattle.text.specs.Digits.{spelling_next, spelling_ends}
use Rattle.text.proofs.digits.U64Spell.spell.Goals as goal

pub loop-rest-preserved : goal.loop-rest-preserved
loop-rest-preserved c = let l = c.loop-rest in spelling_next l.at l.rest l.invariant c.loop-rest-test.true

pub returns : goal.returns
returns c = let l = c.loop-rest in spelling_ends l.at l.rest l.invariant (omega (arith, c.loop-rest-test.false))
