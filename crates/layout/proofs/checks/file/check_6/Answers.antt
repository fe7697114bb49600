-- `layout::checks::file::check_6` meets its contract: the run's fields are the variances. Assumes nothing.
use mathlib.Core.Path.{refl, ap, ◌∙◌}
use Rattle.definitions.specs.Layout.{parts}
use Rattle.definitions.specs.Refusals.{check6}
use Rattle.layout.specs.CheckLaws.{unsigned_run_lem}
use Rattle.layout.proofs.checks.file.check_6.Goals as goal

pub returns : goal.returns
unfolding check6
returns c =
    let all = c.parts_of.ensures ∙ ap parts c.last_year.ensures in
    c.check_unsigned.ensures ∙ unsigned_run_lem c.args.s.now 6 _ (λ k. refl) all _
