-- `variance_sum` meets its contract. The loop's invariant: the total is that of the first m variances.
use mathlib.Core.Path.{◌≡◌}
use Rattle.projecting.specs.Central.{variances_from}
use Rattle.projecting.proofs.central.variance_sum.Given as goal

abbrev pub invariant-loop-m : goal.invariant-loop-m
invariant-loop-m l = l.total ≡ variances_from l.variances l.first l.m
