-- `scales::logarithm_of` meets its contract. The loop's invariant: so many squarings are run.
use Rattle.scales.proofs.Squarings.{After}
use Rattle.scales.proofs.logarithm_of.Given as goal

abbrev pub invariant-loop : goal.invariant-loop
invariant-loop l = After l.counter l.initial.s l.s
