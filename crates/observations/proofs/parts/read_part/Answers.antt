-- `observations::parts::read_part` meets its contract: each number is put at its place, and the others stay.
use mathlib.Core.Path.{ap, ◌∙◌}
use Rattle.std.proofs.Common.{rules}
use Rattle.integers.specs.Bits.{same}
use Rattle.definitions.specs.Weight.{weight}
use Rattle.observations.proofs.ReadLaws.{parts_next}
use Rattle.observations.proofs.parts.read_part.Goals as goal

pub returns : goal.returns
returns c =
    let variance = c.variance_of-variance.ensures in
    parts_next c.requires variance
    (c.weight_of.ensures ∙ ap weight variance)
    (c.weight_of-2.ensures ∙ ap weight c.prior_variance.ensures)
    (same c.prior_mean.result.0 (search rules) ∙ c.prior_mean.ensures)
