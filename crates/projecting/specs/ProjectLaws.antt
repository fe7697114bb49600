-- The machine's outcome of ultimate, case by case: what the call shows of its answer.
use Rattle.std.specs.Prelude.{ℕ, ◌≡◌, List, ℤ}
use Rattle.std.proofs.Math.Bool.{true}
use Rattle.definitions.specs.Words.{part}
use Rattle.definitions.specs.Matrix as D
use Rattle.definitions.specs.Matrix.{passes}
use Rattle.definitions.specs.Ultimate as U
use Rattle.definitions.specs.Ultimate.{ultimate_of}
use Rattle.laws.specs.Accepted.{Within}
use Rattle.observations.specs.declared.Observations.{Observations}
use Rattle.projecting.specs.Projects.{latest_with}

-- a figure is answered only for a year of 1..J, where the mean that is held passes, and it is the definitions'
pub record Answered (o : Observations) (F : D.Figures) (μ : List ℤ) (year : ℕ) (u : U.Ultimate) : Type 0 where
  pub passing : passes F (part μ) ≡ true
  pub year_there : Within 1 F.last year
  pub is : u ≡ ultimate_of F.last (latest_with o F) year (part μ)
