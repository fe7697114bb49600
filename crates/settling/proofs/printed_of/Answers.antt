-- Each branch by what `settle` tells of its answer.
use borrow.Author.Rules.{rules}
use Rattle.settling.specs.Told.Told.{shown}
use Rattle.settling.proofs.printed_of.Goals as goal

pub returns-in-Ok-Settled : goal.returns-in-Ok-Settled
returns-in-Ok-Settled g c = shown _ _ (c.settle-settling.ensures.settled _ (search rules)) c.make.ensures
