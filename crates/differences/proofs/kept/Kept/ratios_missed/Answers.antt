-- `ratios_missed` meets its contract: each term is small, and is that of the chain whatever is not lent.
use Rattle.std.proofs.Common.{rules, [], arith}
use Rattle.observations.specs.Arrays.{observations_at}
use Rattle.differences.specs.Differences.{RatioMissed}
use Rattle.differences.proofs.DifferenceLaws.{ratio_term_small}
use Rattle.differences.proofs.kept.Kept.ratios_missed.Goals as goal

pub running_sums-requires-clause-small : goal.running_sums-requires-clause-small
running_sums-requires-clause-small c d z below given =
    let kept = c.args.self.now in
    let mean = c.args.mean.now in
    let missed : RatioMissed kept.ticks.now kept.weights.now mean kept.last d z = search rules in
    let o = observations_at kept.ticks.now kept.weights.now [] [] in
    rw (missed.is [] []) (omega (arith, ratio_term_small kept.last o kept.few mean c.requires d below))
