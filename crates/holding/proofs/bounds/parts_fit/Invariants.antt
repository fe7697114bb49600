-- `bounds::parts_fit` meets its contract. The loop's invariant: the parts before k fit.
use Rattle.holding.specs.Bounds.{PartsFit}
use Rattle.holding.proofs.bounds.parts_fit.Given as goal

abbrev pub invariant-loop-k : goal.invariant-loop-k
invariant-loop-k l = PartsFit l.own l.matrix l.right_hand l.mean l.k
