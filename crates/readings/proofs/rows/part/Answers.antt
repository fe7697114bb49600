-- `readings::rows::part` meets its contract: the test of the channel picks the block. Assumes nothing.
use borrow.Author.Tests.{eq-eqb, ne_eqb}
use Rattle.readings.proofs.rows.part.Goals as goal

pub returns-then-channel-eq0 : goal.returns-then-channel-eq0
returns-then-channel-eq0 c = rw (eq-eqb c.args.channel 0 c.if-channel-eq0.true)

pub returns-else-channel-eq0 : goal.returns-else-channel-eq0
returns-else-channel-eq0 c = rw (ne_eqb c.args.channel 0 c.if-channel-eq0.false)
