-- Specification, "From amounts to the loss": the weight of a variance.
use Rattle.std.specs.Prelude.{ℕ, ◌+◌, ◌*◌, ◌/◌, ◌^◌}

-- 2^46 / v to the nearest, halves up; of a variance of 0 it is 0
unfoldable pub weight : ℕ → ℕ
weight v = (2 ^ 47 + v) / (2 * v)
