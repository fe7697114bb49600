-- `exports::desk_figures_lent` meets its contract: what C gets stands for what the session shows.
use Rattle.std.proofs.Common.{◌∙◌}
use Rattle.std.proofs.Math.Path.{ap}
use Rattle.telling.specs.Told.{system_of}
use Rattle.desk.proofs.CallLaws.{puts_told}
use Rattle.desk.proofs.exports.desk_figures_lent.Goals as goal

pub returns : goal.returns
returns c =
    let figures = c.figures_put-answer.new.figures in
    puts_told _ _ figures c.figures_put-answer.ensures
    (c.system_of.ensures ∙ ap (λ refusal. system_of refusal figures) c.done_told.ensures.written)
