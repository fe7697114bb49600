-- `figures::right_hand::Columns::ratio_sums` meets its contract: each weighed ratio is small.
use Rattle.std.proofs.Common.{rules, ◌≡◌, pos, ◌*ℤ◌, arith}
use Rattle.integers.specs.Size.{nat_abs-*-≤}
use Rattle.observations.specs.Arrays.{ratio_at}
use Rattle.figures.specs.Sums.{ratio_of}
use Rattle.figures.specs.SumLaws.{ratio_of_small}
use Rattle.figures.proofs.right_hand.Columns.ratio_sums.Goals as goal

pub running_sums-requires-clause-small : goal.running_sums-requires-clause-small
running_sums-requires-clause-small c d z below given =
    let logs = c.args.self.now.ticks.now in
    let J = c.args.self.now.last in
    let weight = pos (ratio_at c.args.weights.now d) in
    let is : z ≡ weight *ℤ ratio_of logs J d = search rules in
    let ratio_small = ratio_of_small logs J d c.requires.of_rows.logs_small (omega arith) in
    rw is (omega (arith, nat_abs-*-≤ weight (ratio_of logs J d) (c.requires.weights_small d below) ratio_small))
