-- The sizes of the arrays of a session, in the order in which open is lent them.
use Rattle.std.specs.Prelude.{ℕ, ◌+◌, ◌*◌, ◌≤◌, ◌≡◌, List, [], ◌∷◌, get_or}
use Rattle.std.proofs.Math.ListN.{get_or-eq_default}
use Rattle.definitions.specs.Layout.{parts, cells}
use Rattle.definitions.specs.Refusals.{year_limit}

abbrev pub sizes : List ℕ
sizes =
    -- J, closeness, sweeps run
    3
    -- own weights, matrix, right-hand side, mean
    ∷ parts year_limit ∷ (parts year_limit * parts year_limit) ∷ parts year_limit ∷ parts year_limit
    -- ticks: logarithms by cell, prior means by part
    ∷ (2 * cells year_limit + parts year_limit)
    -- weights: of observations and priors by part, of ratios by development year
    ∷ (2 * parts year_limit + year_limit)
    -- variances by part
    ∷ parts year_limit
    -- marks of struck steps, by part and accident year
    ∷ (parts year_limit * (year_limit + 1))
    ∷ []

-- behind the last array there is none
abbrev pub size_of : ℕ → ℕ
size_of array = get_or sizes array 0

pub none_behind : (array : ℕ) → 9 ≤ array → size_of array ≡ 0
none_behind array behind = get_or-eq_default sizes 0 {n = array} behind
