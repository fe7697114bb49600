-- The digits of a number, from the last to the first. The invariant: those that are written stand behind the ones that are left.
use Rattle.text.specs.Digits.{Spelling}
use Rattle.text.proofs.digits.U64Spell.spell.Given as goal

abbrev pub invariant-loop-rest : goal.invariant-loop-rest
invariant-loop-rest l = Spelling l.self l.bytes l.at l.rest

abbrev pub decreases-loop-rest : goal.decreases-loop-rest
decreases-loop-rest l = l.at
