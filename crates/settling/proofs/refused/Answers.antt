-- There is room for the line.
use Rattle.laws.proofs.Printed.{refusal_most}
use Rattle.settling.specs.Printed.{prints}
use Rattle.settling.proofs.refused.Goals as goal

pub returns : goal.returns
returns c = prints c.put_refusal-end.ensures (refusal_most _ _)
