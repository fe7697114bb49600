-- `exports::desk_ultimate_lent` meets its contract: its answer stands for the session's.
use Rattle.std.specs.Prelude.{refl}
use Rattle.projecting.specs.Projects.{of_project}
use Rattle.telling.specs.Told.{ultimate_told}
use Rattle.desk.proofs.CallLaws.{of_answer, projects_told}
use Rattle.desk.proofs.exports.desk_ultimate_lent.Goals as goal

pub returns : goal.returns
returns c weights struck =
    projects_told _ _ _ _ (c.ultimate_lent.ensures weights struck)
    (of_answer ultimate_told of_project (λ _. refl) _ c.ultimate_told.ensures)
