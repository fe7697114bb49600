-- `log_within` as the library's clamp, and that what is brought inside stays there.
use Rattle.std.specs.Prelude.{ℕ, ◌^◌, ◌≤◌, ◌≡◌, Bool, true, false, cond, ℤ, pos, negsuc, nat_abs, ltb}
use Rattle.std.proofs.Common.{arith}
use Rattle.std.specs.Int.{int_max, int_min}
use Rattle.std.proofs.lemmas.Int.{ints, clamps}
use Rattle.laws.specs.Chains.{observed_limit}
use Rattle.observations.specs.Arrays.{log_within}
use Rattle.observations.specs.Inside.{least_weight, most_weight}

pub log_clamped : (z : ℤ) → int_max (pos 0) (int_min z (pos observed_limit)) ≡ log_within z
unfolding log_within
log_clamped (pos n) = omega (arith, ints, clamps)
log_clamped (negsuc n) = omega (arith, ints, clamps)

pub log_small : (z : ℤ) → nat_abs (log_within z) ≤ observed_limit
unfolding log_within
log_small (pos n) = omega arith
log_small (negsuc n) = omega arith

-- the limits of a weight
pub least_to_most : (n c : ℕ) → least_weight n c ≤ most_weight c
least_to_most n c = by_tests (ltb c n) (ltb c 62)
  where
    by_tests : (a b : Bool) → cond a 1 0 ≤ cond b (2 ^ 28) (2 ^ 27)
    by_tests true true = omega arith
    by_tests true false = omega arith
    by_tests false true = omega arith
    by_tests false false = omega arith
