-- `observations::means::start_mean` meets its contract. The loop's invariant: the parts passed have their prior means.
use lib.IntN.{pos}
use Rattle.laws.specs.Filled.{Filled}
use Rattle.observations.specs.Arrays.{mean_at}
use Rattle.observations.proofs.means.start_mean.Given as goal

abbrev pub invariant-loop-k : goal.invariant-loop-k
invariant-loop-k l = Filled 31 l.k (pos 0) (mean_at l.ticks) l.mean
