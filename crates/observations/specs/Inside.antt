-- The contracts of what brings the numbers of a session inside their limits.
use Rattle.std.specs.Prelude.{ℕ, ◌/◌, ◌^◌, cond, List, ℤ, pos, ltb, eqb}
use Rattle.definitions.specs.Words.{part}
use Rattle.definitions.specs.Sweep.{bring_back}
use Rattle.laws.specs.Filled.{Filled}
use Rattle.observations.specs.Arrays.{at, brought_within, log_within}

-- the number at place c: a logarithm, or behind them a prior mean
abbrev pub tick_within : ℕ → ℤ → ℤ
tick_within c z = cond (ltb c 272) (log_within z) (bring_back z)

pub record TicksInside (ticks r : List ℤ) : Type 0 where
  pub filled : Filled 303 303 (pos 0) (λ c. tick_within c (part ticks c)) r

-- the limits of the weight at place c: at least 1 of the observations of n parts, at most 2^27 of ratios
abbrev pub least_weight : ℕ → ℕ → ℕ
least_weight n c = cond (ltb c n) 1 0

abbrev pub most_weight : ℕ → ℕ
most_weight c = cond (ltb c 62) (2 ^ 28) (2 ^ 27)

abbrev pub weight_within : ℕ → ℕ → ℕ → ℕ
weight_within n c v = brought_within (least_weight n c) (most_weight c) v

pub record WeightsInside (n : ℕ) (weights r : List ℕ) : Type 0 where
  pub filled : Filled 77 77 0 (λ c. weight_within n c (at weights c)) r

-- none is left of a column that is marked throughout, nor of a part that there is not
abbrev pub mark_within : List ℕ → ℕ → ℕ → ℕ
mark_within left c mark = cond (eqb (at left (c / 16)) 0) 0 mark

pub record MarksInside (left struck r : List ℕ) : Type 0 where
  pub filled : Filled 496 496 0 (λ c. mark_within left c (at struck c)) r
