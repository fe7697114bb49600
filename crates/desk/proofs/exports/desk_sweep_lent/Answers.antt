-- `exports::desk_sweep_lent` meets its contract: its answer stands for the session's, and what it leaves is the session
-- afterwards.
use Rattle.std.specs.Prelude.{refl}
use Rattle.sweeping.specs.Sweeps.{of_sweep}
use Rattle.telling.specs.Told.{sweep_told}
use Rattle.desk.proofs.CallLaws.{of_answer, sweeps_told}
use Rattle.desk.proofs.exports.desk_sweep_lent.Goals as goal

pub returns : goal.returns
returns c = sweeps_told _ _ _ _ c.sweep_lent-answer.ensures (of_answer sweep_told of_sweep (λ _. refl) _ c.sweep_told.ensures)
