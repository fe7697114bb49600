-- `side_of` meets its contract: the latest logarithm and the steps to come, added.
use Prim.Native.Nat.{◌^◌, ◌<◌}
use mathlib.Core.Path.{◌≡◌, ap₂, ◌∙◌}
use native.Mathlib.Omega.{arith}
use lib.IntN.{ℤ, nat_abs, ◌+ℤ◌}
use mir.Syntax.{w64}
use Rattle.integers.specs.Bits.{stored, same}
use Rattle.integers.specs.Size.{fits, kept}
use Rattle.definitions.specs.Words.{part}
use Rattle.observations.specs.Arrays.{log_within}
use Rattle.projecting.specs.Central.{parts_from}
use Rattle.projecting.proofs.CentralLaws.{side_small}
use Rattle.projecting.proofs.central.side_of.Goals as goal
use Rattle.projecting.proofs.central.side_of.Goals.{After-struct_told-2-1}

module _ (c : After-struct_told-2-1) where
  abbrev ultimate : ℤ
  ultimate = log_within (part c.args.ticks.now c.args.cell) +ℤ parts_from c.args.mean.now c.args.first c.args.count

  ultimate_is : stored c.kept_logarithm-known.result.0 +ℤ stored c.part_sum-expected.result.0 ≡ ultimate
  ultimate_is = ap₂ ◌+ℤ◌
      (same _ c.struct_told-1.given.0.1 ∙ c.kept_logarithm-known.ensures)
      (same _ c.struct_told-2-1.given.0.1 ∙ c.part_sum-expected.ensures.is)

  ultimate_small : nat_abs ultimate < 2 ^ 63
  ultimate_small = omega (arith, side_small (part c.args.ticks.now c.args.cell) c.requires)

pub overflow_add-result : goal.overflow_add-result
overflow_add-result c = fits (ultimate_is c) (ultimate_small c)

pub returns : goal.returns
returns c = record {
  ultimate = kept w64 (ultimate_is c) (ultimate_small c);
  variance = c.variance_sum-variance.ensures.is;
}
