-- `state::empty` meets its contract: nothing is held.
use Rattle.std.proofs.Common.{arith}
use Rattle.holding.proofs.StateLaws.{state_of_empty}
use Rattle.session.proofs.state.empty.Goals as goal

pub returns : goal.returns
returns c = state_of_empty _ (λ h. omega (arith, h.holding))
