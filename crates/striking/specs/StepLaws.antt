-- Where a step stands: with its part and accident year; and the tests of the code.
use Rattle.std.specs.Prelude.{ℕ, ◌+◌, ◌≤◌, ◌<◌, ◌≡◌}
use Rattle.definitions.specs.Layout.{parts}
use Rattle.definitions.specs.Strikes.{step, steps_in}
use Rattle.definitions.specs.Kept.{step_of, steps_of, part_of_step}

pub record Placed (J c i j : ℕ) : Type 0 where
  pub in_years : i + j ≤ J
  pub below : part_of_step J (step c i j) < parts J
  pub year : i < steps_of J (part_of_step J (step c i j))
  pub steps : steps_of J (part_of_step J (step c i j)) ≡ steps_in J c j
  pub is : step_of J (part_of_step J (step c i j)) i ≡ step c i j
