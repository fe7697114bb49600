-- `layout::checks::check_unsigned` meets its contract. The loop's invariant: the fields from k on give what all of them give. The measure is how many
-- are left. Assumes nothing.
use Prim.Native.Nat.{ℕ, ◌+◌, ◌*◌}
use mathlib.Core.Bool.{Bool}
use Rattle.definitions.specs.Layout.{Bytes, unsigned}
use Rattle.layout.specs.declared.checks.Limits.{Limits}
use Rattle.layout.specs.Refusals.{number_of}
use Rattle.layout.specs.Checks.{allowed}
use Rattle.layout.specs.CheckLaws.{Left}
use Rattle.layout.proofs.checks.check_unsigned.Given as goal

abbrev pub place : ℕ → ℕ → ℕ → ℕ
place first stride k = first + stride * k

abbrev pub good : Bytes → Limits → ℕ → ℕ → ℕ → Bool
good s limits first stride k = allowed limits (unsigned 8 (place first stride k) s)

abbrev pub invariant-loop-k : goal.invariant-loop-k
invariant-loop-k l = Left (good l.s l.limits l.first l.stride) (number_of l.reason) (place l.first l.stride) l.k-end l.k
