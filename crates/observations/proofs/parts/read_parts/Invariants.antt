-- `observations::parts::read_parts` meets its contract. The loop's invariant: the parts passed are read.
use Rattle.observations.specs.Reading.{PartsTo}
use Rattle.observations.proofs.parts.read_parts.Given as goal

abbrev pub invariant-loop-k : goal.invariant-loop-k
invariant-loop-k l = PartsTo l.k l.file l.ticks l.weights l.variances
