-- The weight of a variance: positive, at most 2^28 on every accepted variance, and falling as the variance grows.
use Rattle.std.specs.Prelude.{ℕ, zero, suc, ◌+◌, ◌*◌, ◌^◌, ◌≤◌, ◌<◌, ◌≡◌, refl}
use Rattle.std.proofs.Common.{mul-le-mul_left, le-div_iff_mul-le, div-mul-le_self, arith}
use Rattle.definitions.specs.Weight.{weight}

-- a number is at most the weight exactly if it is at most the quotient before the floor
below_weight : (v w : ℕ) → 0 < v → w * (2 * v) ≤ 2 ^ 47 + v → w ≤ weight v
unfolding weight
below_weight v w h k = let positive : 0 < 2 * v = omega arith in (le-div_iff_mul-le positive).1 k

weight_below : (v : ℕ) → weight v * (2 * v) ≤ 2 ^ 47 + v
unfolding weight
weight_below v = div-mul-le_self (2 ^ 47 + v) (2 * v)

-- the larger the variance, the smaller the weight
pub weight_falls : (v w : ℕ) → 0 < v → v ≤ w → weight w ≤ weight v
weight_falls v w h k = by_cases (weight w) (weight_below w)
  where
    by_cases : (r : ℕ) → r * (2 * w) ≤ 2 ^ 47 + w → r ≤ weight v
    by_cases zero e = omega arith
    by_cases (suc r) e = below_weight v (suc r) h (omega (arith, mul-le-mul_left (suc r) k, mul-le-mul_left r k))

-- a variance of 0 stands for no prior
pub weight_of_none : weight 0 ≡ 0
unfolding weight
weight_of_none = refl

pub weight_positive : (v : ℕ) → 0 < v → v ≤ 2 ^ 47 → 1 ≤ weight v
weight_positive v h k = below_weight v 1 h (omega arith)

pub weight_of_least : weight (2 ^ 18) ≡ 2 ^ 28
unfolding weight
weight_of_least = refl

pub weight_of_two_least : weight (2 ^ 19) ≡ 2 ^ 27
unfolding weight
weight_of_two_least = refl

pub weight_at_most : (v : ℕ) → 2 ^ 18 ≤ v → weight v ≤ 2 ^ 28
weight_at_most v h = omega (arith, weight_falls (2 ^ 18) v (omega arith) h, weight_of_least)

-- a variance that is the sum of two
pub weight_of_two_at_most : (v : ℕ) → 2 ^ 19 ≤ v → weight v ≤ 2 ^ 27
weight_of_two_at_most v h = omega (arith, weight_falls (2 ^ 19) v (omega arith) h, weight_of_two_least)
