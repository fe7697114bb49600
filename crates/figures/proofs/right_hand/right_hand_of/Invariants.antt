-- `figures::right_hand::right_hand_of` meets its contract. The loop's invariant: the parts passed have their right-hand sides.
use lib.IntN.{pos}
use Rattle.laws.specs.Filled.{Filled}
use Rattle.figures.specs.Sums.{target_from}
use Rattle.figures.proofs.right_hand.right_hand_of.Given as goal

abbrev pub invariant-loop-k : goal.invariant-loop-k
invariant-loop-k l =
    Filled 31 l.k (pos 0) (target_from l.weights l.ticks l.sums l.ratios l.last) l.targets
