-- The contract of ultimate: the answer is the machine's. In plain words besides, for every session: floor times divisor plus remainder is
-- the numerator, and the remainder is below the divisor; and the caller is told what the mean is worth from which the figure is taken.
use Rattle.std.specs.Prelude.{ℕ, ◌≡◌, List, ℤ, Result, Ok, Err}
use Rattle.definitions.specs.Words.{part}
use Rattle.definitions.specs.Layout.{closeness}
use Rattle.definitions.specs.Matrix.{Figures}
use Rattle.definitions.specs.Strikes.{StruckFile, chain_left}
use Rattle.definitions.specs.Ultimate as D
use Rattle.definitions.specs.Ultimate.{Latest, Divided, numerator, both_variances}
use Rattle.definitions.specs.Machine as M
use Rattle.definitions.specs.Machine.{Answer, State, holds, ultimate_call}
use Rattle.definitions.specs.Kept.{latest_in}
use Rattle.definitions.specs.Guarantee.{Guarantee}
use Rattle.layout.specs.declared.refusals.Refusal.{Refusal}
use Rattle.layout.specs.Refusals.{refused_as}
use Rattle.observations.specs.declared.Observations.{Observations}
use Rattle.observations.specs.Arrays.{observations_at, observed_in}
use Rattle.holding.specs.State.{Held, state_of, HoldsFile}
use Rattle.projecting.specs.declared.Ultimate.{Ultimate}

-- a figure as the definitions have it
abbrev pub of_ultimate : Ultimate → D.Ultimate
of_ultimate r = record { floor = r.floor; remainder = r.remainder; divisor = r.divisor }

-- the specification's number, place and values for every case of an answer
abbrev pub of_project : Result Ultimate Refusal → Answer
of_project (Ok r) = M.ultimate_is (of_ultimate r)
of_project (Err r) = refused_as r

-- the latest amounts and the variances that observations stand for, of so many years as the figures have
abbrev pub latest_with : Observations → Figures → Latest
latest_with o F = latest_in F.last (observed_in F.last o)

abbrev pub projects_to : Observations → State Figures → ℕ → Answer
projects_to o = ultimate_call (λ F. F) (latest_with o)

pub record Projects (o : Observations) (s : Held) (year : ℕ) (r : Result Ultimate Refusal) : Type 0 where
  pub answer : of_project r ≡ projects_to o (state_of s) year
  pub exact : (F : Figures) (μ : List ℤ) (count : ℕ) → state_of s ≡ holds F μ count → (u : Ultimate) → r ≡ Ok u
      → Divided (numerator F.last (latest_with o F) year (part μ)) (of_ultimate u)
      × (u.divisor ≡ both_variances F.last (latest_with o F) year)
  -- the mean that it is taken from
  pub worth : (f : StruckFile) (μ : List ℤ) (count : ℕ) → HoldsFile s f μ count → (u : Ultimate) → r ≡ Ok u
      → Guarantee (chain_left f) (closeness f.file) (part μ)

-- of lent arrays, whatever weights and marks the session keeps beside them
abbrev pub ProjectsLent : List ℤ → List ℕ → Held → ℕ → Result Ultimate Refusal → Type 0
ProjectsLent ticks variances s year r = (weights struck : List ℕ) → Projects (observations_at ticks weights variances struck) s year r
