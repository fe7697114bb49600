-- `scales::four_logarithms_of` meets its contract. The loop's invariant: so many squarings of each are run.
use Rattle.scales.proofs.Squarings.{After}
use Rattle.scales.proofs.four_logarithms_of.Given as goal

abbrev pub invariant-loop : goal.invariant-loop
invariant-loop l =
    After l.counter l.initial.first l.first
    × After l.counter l.initial.second l.second
    × After l.counter l.initial.third l.third
    × After l.counter l.initial.fourth l.fourth
