-- `observations::ratios::weigh_ratios` meets its contract. The loop's invariant: the years from k on are weighed, and the variances to come
-- after k are added up.
use mathlib.Core.Path.{◌≡◌}
use Rattle.observations.specs.Arrays.{at}
use Rattle.observations.specs.Ratios.{ratio_from, WeighedFrom}
use Rattle.observations.proofs.ratios.weigh_ratios.Given as goal

abbrev pub invariant-loop-k : goal.invariant-loop-k
invariant-loop-k l =
    (l.variance ≡ ratio_from l.last (at l.variances) l.k) × WeighedFrom l.k l.variances l.last l.initial.weights l.weights
