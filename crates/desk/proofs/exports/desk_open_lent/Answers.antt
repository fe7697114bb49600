-- `exports::desk_open_lent` meets its contract: its answer stands for the session's.
use Rattle.std.specs.Prelude.{refl}
use Rattle.opening.specs.Opens.{of_open}
use Rattle.telling.specs.Told.{refusal_told}
use Rattle.desk.proofs.CallLaws.{of_answer, opens_told}
use Rattle.desk.proofs.exports.desk_open_lent.Goals as goal

pub returns : goal.returns
returns c = opens_told _ _ _ _ _ _ c.open_lent.ensures (of_answer refusal_told of_open (λ _. refl) _ c.done_told.ensures.opened)
