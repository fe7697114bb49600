-- `session::calls::strike` meets its contract: a value is lent its own arrays, and its variances stay.
use Rattle.session.proofs.calls.strike.Goals as goal

pub returns : goal.returns
returns c = c.strike_lent-answer.ensures c.args.s.observations.variances
