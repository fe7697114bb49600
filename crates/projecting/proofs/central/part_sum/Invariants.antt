-- `part_sum` meets its contract. The loop's invariant: the total is that of the first m parts.
use mathlib.Core.Path.{◌≡◌}
use Rattle.projecting.specs.Central.{parts_from}
use Rattle.projecting.proofs.central.part_sum.Given as goal

abbrev pub invariant-loop-m : goal.invariant-loop-m
invariant-loop-m l = l.total ≡ parts_from l.mean l.first l.m
