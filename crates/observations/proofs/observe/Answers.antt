-- `observations::observe` meets its contract: logarithms, parts and ratios one after another, each keeping what is there.
use mathlib.Core.Path.{sym, subst}
use Rattle.observations.specs.Ratios.{OfVariances, RatiosWeighed}
use Rattle.observations.proofs.OfFile.{of_variances, observed}
use Rattle.observations.proofs.observe.Goals as goal

pub weigh_ratios-requires : goal.weigh_ratios-requires
weigh_ratios-requires c =
    subst (OfVariances c.read_parts.new.weights c.read_parts.new.variances) (sym c.last_year.ensures)
    (of_variances c.args.file.now c.requires c.read_parts.ensures)

pub returns : goal.returns
returns c =
    observed c.args.file.now c.requires c.read_parts.ensures
    (subst (λ n. RatiosWeighed c.read_parts.new.variances n c.read_parts.new.weights c.weigh_ratios.new.weights)
    c.last_year.ensures c.weigh_ratios.ensures)
