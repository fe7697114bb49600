-- A part that has passed a limit is set to it. Shown: the library's tests are those of `bring_back`. Assumes nothing.
use Rattle.std.specs.Prelude.{◌≡◌, refl, Bool, true, false, ℤ, pos, neg_ℤ}
use Rattle.std.proofs.Common.{ap, ◌∙◌, to_z-of_z}
use Rattle.std.proofs.Math.Bool.{cond}
use Rattle.std.specs.Int.{int_min, int_max}
use Rattle.std.specs.Int.Signed.{lt_z}
use Rattle.integers.specs.Bits.{same}
use Rattle.definitions.specs.Refusals.{part_limit}
use Rattle.definitions.specs.Sweep.{bring_back}
use Rattle.arithmetic.proofs.limits.brought_back.Goals as goal

clamped : (z : ℤ) → int_max (neg_ℤ (pos part_limit)) (int_min z (pos part_limit)) ≡ bring_back z
unfolding bring_back
clamped z = by_test (lt_z (pos part_limit) z)
  where
    by_test : (above : Bool)
        → int_max (neg_ℤ (pos part_limit)) (cond above (pos part_limit) z)
        ≡ cond above (pos part_limit) (cond (lt_z z (neg_ℤ (pos part_limit))) (neg_ℤ (pos part_limit)) z)
    by_test true = refl
    by_test false = refl

pub returns : goal.returns
returns c = same c.clamp.result c.clamp.type_inv ∙ c.clamp.ensures.value ∙ clamped _ ∙ ap bring_back (to_z-of_z c.ranges.z)
