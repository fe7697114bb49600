-- There is room for the line.
use Rattle.definitions.specs.Words.{tab_from}
use Rattle.definitions.specs.Text.{ascii}
use Rattle.laws.proofs.Printed.{spent_most}
use Rattle.settling.specs.Printed.{prints}
use Rattle.settling.proofs.spent.Goals as goal

pub returns : goal.returns
unfolding ascii tab_from
returns c = prints c.put_count-end.ensures (spent_most _)
