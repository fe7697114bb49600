-- `ultimate` meets its contract: what it lends is what the session keeps, weights included.
use Rattle.session.proofs.calls.ultimate.Goals as goal

pub returns : goal.returns
returns c =
    let kept = c.args.s.observations in
    c.ultimate_lent.ensures kept.weights kept.struck
