-- `prior_missed` meets its contract: weight times difference of what is kept of the part's prior.
use Prim.Native.Nat.{ℕ}
use mathlib.Core.Path.{◌≡◌, ap, ap₂, ◌∙◌}
use mathlib.Core.List.{List, []}
use native.Mathlib.Omega.{arith}
use lib.IntN.{pos, nat_abs, ◌-ℤ◌, ◌*ℤ◌}
use mir.Facts.{to_z-of_z}
use Rattle.integers.specs.Bits.{stored, same}
use Rattle.definitions.specs.Matrix.{part_by_index}
use Rattle.observations.specs.declared.Observations.{Observations}
use Rattle.observations.specs.Arrays.{observations_at}
use Rattle.differences.specs.Differences.{left_in, prior_weight_of, prior_mean_of}
use Rattle.differences.proofs.DifferenceLaws.{prior_weight_is, prior_mean_is, prior_mean_small}
use Rattle.differences.proofs.kept.Kept.prior_missed.Goals as goal
use Rattle.differences.proofs.kept.Kept.prior_missed.Goals.{After-struct_told-1}

-- what is read
module _ (c : After-struct_told-1) (variances struck : List ℕ) where
  abbrev J : ℕ
  J = c.args.self.now.last

  abbrev k : ℕ
  k = c.args.k

  abbrev o : Observations
  o = observations_at c.args.self.now.ticks.now c.args.self.now.weights.now variances struck

  weight_is : c.kept_prior_weight.result.0 ≡ prior_weight_of (left_in J o) (part_by_index J k)
  weight_is = c.kept_prior_weight.ensures ∙ prior_weight_is J o k c.requires.below

  mean_is : stored c.kept_prior_mean-mean.result.0 ≡ prior_mean_of (left_in J o) (part_by_index J k)
  mean_is =
      same _ c.struct_told-1.given.0.1 ∙ c.kept_prior_mean-mean.ensures ∙ prior_mean_is J o k c.requires.below

  held : stored c.args.value ≡ c.args.value
  held = to_z-of_z c.ranges.value

pub weighed-requires : goal.weighed-requires
weighed-requires c = record {
  light = omega (arith, c.kept_prior_weight.ensures);
  part_small = omega (arith, ap nat_abs (held c [] []), c.requires.small);
  observed_small = rw (mean_is c [] []) (prior_mean_small (J c [] []) (o c [] []) c.args.self.now.few (k c [] []) c.requires.below);
}

pub returns : goal.returns
returns c =
    let after_struct_told_1 = (goal.at.returns c).After-struct_told-1 in
    record {
      is = λ variances struck.
          same _ c.weighed.type_inv
          ∙ c.weighed.ensures
          ∙ ap₂ (λ w z. pos w *ℤ z) (weight_is after_struct_told_1 variances struck)
          (ap₂ ◌-ℤ◌ (held after_struct_told_1 variances struck) (mean_is after_struct_told_1 variances struck));
    }
