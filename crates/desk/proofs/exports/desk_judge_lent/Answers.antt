-- `exports::desk_judge_lent` meets its contract: its answer stands for the session's.
use Rattle.std.specs.Prelude.{refl}
use Rattle.judging.specs.Judges.{of_judge}
use Rattle.telling.specs.Told.{judge_told}
use Rattle.desk.proofs.CallLaws.{of_answer, judges_told}
use Rattle.desk.proofs.exports.desk_judge_lent.Goals as goal

pub returns : goal.returns
returns c = judges_told _ _ _ c.judge_lent.ensures (of_answer judge_told of_judge (λ _. refl) _ c.judge_told.ensures)
