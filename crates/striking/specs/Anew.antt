-- The contract of the figures that are made anew.
use Rattle.std.specs.Prelude.{ℕ, List, ℤ}
use Rattle.definitions.specs.Layout.{parts}
use Rattle.observations.specs.Inside.{TicksInside, WeightsInside}
use Rattle.observations.specs.Means.{PriorMeans}
use Rattle.figures.specs.Gathered.{FiguresOf}

-- of ticks and weights that are brought inside their limits
pub record Anew (last : ℕ) (ticks : List ℤ) (weights struck own : List ℕ) (A b mean ticks' : List ℤ) (weights' : List ℕ) : Type 0 where
  pub ticks_are : TicksInside ticks ticks'
  pub weights_are : WeightsInside (parts last) weights weights'
  pub figures_are : FiguresOf ticks' weights' struck last own A b
  pub means_are : PriorMeans ticks' last mean
