-- `records::parse_parts` meets its contract. The loop's invariant: the parts that are read, all of them inside the limits, and zeros behind
-- them. The measure is how many are left. Assumes nothing.
use Prim.Native.Nat.{ℕ, ◌-◌}
use mathlib.Core.Path.{◌≡◌}
use mathlib.Core.Bool.{Bool}
use mathlib.Core.List.{◌++◌}
use lib.IntN.{ℤ, pos}
use lib.ListN.{replicate}
use Rattle.definitions.specs.Words.{tab_from}
use Rattle.definitions.specs.Layout.{Bytes, signed, part_at, parts}
use Rattle.definitions.specs.Refusals.{good_part}
use Rattle.layout.specs.CheckLaws.{Left}
use Rattle.records.proofs.parse_parts.Given as goal

abbrev pub read : Bytes → ℕ → ℤ
read r k = signed (part_at k) r

abbrev pub good : Bytes → ℕ → Bool
good r k = good_part (read r k)

abbrev pub invariant-loop-k : goal.invariant-loop-k
invariant-loop-k l = (l.mean ≡ tab_from 0 l.k (read l.r) ++ replicate (31 - l.k) (pos 0)) × Left (good l.r) 11 part_at (parts l.last) l.k
