-- `ratio_of` meets its contract. The loop's invariant: the total is that of the first n differences.
use Prim.Native.Nat.{ℕ, ◌+◌}
use mathlib.Core.Path.{◌≡◌}
use mathlib.Core.List.{List}
use lib.IntN.{ℤ, ◌-ℤ◌}
use Rattle.integers.specs.Sum.{sum}
use Rattle.definitions.specs.Words.{part}
use Rattle.differences.proofs.ratios.ratio_of.Given as goal

-- of a mean, a J and a development year
abbrev pub difference : List ℤ → ℕ → ℕ → ℕ → ℤ
difference mean J d n = part mean (d + 1 + n) -ℤ part mean (J + 1 + d + n)

abbrev pub invariant-loop-n : goal.invariant-loop-n
invariant-loop-n l = l.total ≡ sum l.n (difference l.mean l.last l.d)
