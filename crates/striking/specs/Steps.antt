-- The contracts of where a step stands.
use Rattle.std.specs.Prelude.{ℕ, ◌≤◌, ◌≡◌, Bool, true, List}
use Rattle.definitions.specs.Refusals.{year_limit}
use Rattle.definitions.specs.Strikes.{Step, step, is_step}
use Rattle.definitions.specs.Kept.{part_of_step}
use Rattle.observations.specs.Arrays.{mark_at}

-- a step that there is
pub record OfStep (last channel i j : ℕ) : Type 0 where
  pub few : last ≤ year_limit
  pub of_channel : channel ≤ 1
  pub there : is_step last (step channel i j) ≡ true

-- whether it is marked
abbrev pub mark_of : ℕ → List ℕ → Step → Bool
mark_of J marks (step channel i j) = mark_at marks (part_of_step J (step channel i j)) i
