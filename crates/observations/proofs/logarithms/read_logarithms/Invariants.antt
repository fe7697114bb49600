-- `observations::logarithms::read_logarithms` meets its contract. The loops' invariant: the cells passed have the logarithms of their amounts.
use Prim.Native.Nat.{◌*◌}
use Rattle.observations.specs.Reading.{CellsTo}
use Rattle.observations.proofs.logarithms.read_logarithms.Given as goal

abbrev pub invariant-loop-n : goal.invariant-loop-n
invariant-loop-n l = CellsTo (4 * l.n) l.file l.ticks

abbrev pub invariant-loop-c : goal.invariant-loop-c
invariant-loop-c l = CellsTo l.c l.file l.ticks
