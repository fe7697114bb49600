-- `steps_missed` meets its contract. The loop's invariant: the total is that of the part's first i observations.
use Prim.Native.Nat.{ℕ}
use mathlib.Core.Path.{◌≡◌}
use mathlib.Core.List.{List}
use lib.IntN.{ℤ}
use Rattle.integers.specs.Sum.{sum}
use Rattle.definitions.specs.Matrix.{part_by_index}
use Rattle.observations.specs.Arrays.{observations_at}
use Rattle.differences.specs.Differences.{left_in, step_term}
use Rattle.differences.proofs.kept.Kept.steps_missed.Given as goal

-- what the sum is of
abbrev pub term : List ℤ → List ℕ → List ℕ → ℕ → ℕ → ℤ → List ℕ → ℕ → ℤ
term ticks weights struck last k v variances = step_term (left_in last (observations_at ticks weights variances struck)) (part_by_index last k) v

abbrev pub invariant-loop-i : goal.invariant-loop-i
invariant-loop-i l =
    (variances : List ℕ) → l.total ≡ sum l.i (term l.self.ticks.now l.self.weights.now l.self.struck.now l.self.last l.k l.value variances)
