-- `step_at` meets its contract: the difference of two logarithms that are inside their limits.
use Prim.Native.Nat.{ℕ, ◌+◌, ◌^◌, ◌<◌}
use mathlib.Core.Path.{◌≡◌, ap₂, ◌∙◌}
use native.Mathlib.Omega.{arith}
use lib.IntN.{ℤ, nat_abs, ◌-ℤ◌}
use mir.Syntax.{w64}
use Rattle.integers.specs.Bits.{stored, same}
use Rattle.integers.specs.Size.{nat_abs--, fits, kept}
use Rattle.definitions.specs.Words.{part}
use Rattle.observations.proofs.InsideLaws.{log_small}
use Rattle.differences.specs.Differences.{log_at}
use Rattle.differences.proofs.kept.Kept.step_at.Goals as goal
use Rattle.differences.proofs.kept.Kept.step_at.Goals.{After-struct_told-2-1}

module _ (c : After-struct_told-2-1) where
  abbrev log : ℕ → ℤ
  log = log_at c.args.self.now.ticks.now

  abbrev step : ℤ
  step = log (c.args.cell + 1) -ℤ log c.args.cell

  step_is : stored c.kept_logarithm.result.0 -ℤ stored c.kept_logarithm-2.result.0 ≡ step
  step_is = ap₂ ◌-ℤ◌
      (same _ c.struct_told-1.given.0.1 ∙ c.kept_logarithm.ensures)
      (same _ c.struct_told-2-1.given.0.1 ∙ c.kept_logarithm-2.ensures)

  step_small : nat_abs step < 2 ^ 63
  step_small =
      let ticks = c.args.self.now.ticks.now in
      let cell = c.args.cell in
      omega (arith, nat_abs-- (log (cell + 1)) (log cell), log_small (part ticks (cell + 1)), log_small (part ticks cell))

pub overflow_sub-result : goal.overflow_sub-result
overflow_sub-result c = fits (step_is c) (step_small c)

pub returns : goal.returns
returns c = kept w64 (step_is c) (step_small c)
