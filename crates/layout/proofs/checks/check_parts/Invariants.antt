-- The fields from k on give what all of them give.
use Rattle.std.proofs.Common.{ℕ, Bool, ◌+◌, ◌*◌}
use Rattle.definitions.specs.Layout.{Bytes, signed}
use Rattle.definitions.specs.Refusals.{good_part}
use Rattle.layout.specs.Refusals.{number_of}
use Rattle.layout.specs.CheckLaws.{Left}
use Rattle.layout.proofs.checks.check_parts.Given as goal

abbrev pub place : ℕ → ℕ → ℕ → ℕ
place first stride k = first + stride * k

abbrev pub good : Bytes → ℕ → ℕ → ℕ → Bool
good s first stride k = good_part (signed (place first stride k) s)

abbrev pub invariant-loop-k : goal.invariant-loop-k
invariant-loop-k l = Left (good l.s l.first l.stride) (number_of l.reason) (place l.first l.stride) l.k-end l.k
