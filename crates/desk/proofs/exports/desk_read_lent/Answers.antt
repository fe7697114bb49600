-- `exports::desk_read_lent` meets its contract: its answer stands for the session's.
use Rattle.std.specs.Prelude.{refl}
use Rattle.writing.specs.Writes.{of_write}
use Rattle.telling.specs.Told.{refusal_told}
use Rattle.desk.proofs.CallLaws.{of_answer, writes_told}
use Rattle.desk.proofs.exports.desk_read_lent.Goals as goal

pub returns : goal.returns
returns c = writes_told _ _ _ _ _ _ c.read_lent.ensures (of_answer refusal_told of_write (λ _. refl) _ c.done_told.ensures.written)
