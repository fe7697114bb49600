-- `observations::means::start_mean` meets its contract. The loop's invariant: the parts passed have their prior means.
use native.Mathlib.Omega.{arith}
use lib.IntN.{pos}
use Rattle.laws.proofs.Filled.{filled_none, filled_to}
use Rattle.observations.proofs.means.start_mean.Goals as goal

pub loop-k-init : goal.loop-k-init
loop-k-init c = filled_none 31 (pos 0) _

pub returns : goal.returns
returns c = record { filled = filled_to (omega arith) c.loop-k.invariant }
