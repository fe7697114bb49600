-- `residues` meets its contract: what it lends is what the session keeps, variances included.
use Rattle.session.proofs.calls.residues.Goals as goal

pub returns : goal.returns
returns c = c.residues_lent.ensures c.args.s.observations.variances
