-- The sizes of a bounded chain's figures: whatever the specification's formulas form of it fits 64 bits.
use Rattle.std.specs.Prelude.{ℕ, ◌+◌, ◌*◌, ◌^◌, ◌≤◌, nat_abs}
use Rattle.definitions.specs.Refusals.{part_limit}
use Rattle.definitions.specs.Loss.{Vector}
use Rattle.definitions.specs.Observations.{Chain}
use Rattle.definitions.specs.Matrix.{residue_times}
use Rattle.laws.specs.Chains.{weight_limit, observed_limit}

-- a prior and at most 16 observations
abbrev pub own_limit : ℕ
own_limit = weight_limit + 16 * weight_limit

-- the same, each times its weight
abbrev pub firsts_limit : ℕ
firsts_limit = weight_limit * part_limit + 16 * (weight_limit * observed_limit)

-- the residue of part k is no larger than that
abbrev pub ResidueFits : Chain → Vector → ℕ → Type 0
ResidueFits c μ k = nat_abs (residue_times c 1 μ k) ≤ 19732 * 2 ^ 47
