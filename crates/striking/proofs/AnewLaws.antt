-- What is inside its limits is what the figures and the prior means ask for.
use Rattle.std.specs.Prelude.{ℕ, ◌≤◌, List, ℤ}
use Rattle.std.proofs.Common.{arith}
use Rattle.definitions.specs.Words.{part}
use Rattle.definitions.specs.Layout.{parts}
use Rattle.laws.proofs.Cells.{cells_few}
use Rattle.laws.proofs.StepLaws.{bring_back_inside}
use Rattle.observations.specs.declared.Observations.{Observations}
use Rattle.observations.specs.Arrays.{mean_at, observations_at}
use Rattle.observations.specs.Inside.{TicksInside, WeightsInside}
use Rattle.observations.proofs.InsideLaws.{log_small}
use Rattle.observations.proofs.KeptLaws.{tick_log, tick_mean, column_weight, prior_weight_lem, ratio_weight}
use Rattle.observations.specs.Means.{OfMeans}
use Rattle.figures.specs.Gathered.{OfObservations}

module _ (J : ℕ) (years : J ≤ 15) (ticks : List ℤ) (weights : List ℕ) {ticks' : List ℤ} {weights' : List ℕ} (t : TicksInside ticks ticks')
    (w : WeightsInside (parts J) weights weights') where
  -- with whatever else a session keeps
  abbrev o : Observations
  o = observations_at ticks weights weights weights

  pub asks_means : OfMeans ticks' J
  asks_means = record {
    few = years;
    small = λ k below. rw (tick_mean J years o t w k (omega (arith, below, years))) (bring_back_inside (mean_at ticks k));
  }

  pub asks_figures : OfObservations ticks' weights' J
  asks_figures = record {
    few = years;
    logs_small = λ c below.
        rw (tick_log J years o t w c (omega (arith, below, cells_few J years))) (omega (arith, log_small (part ticks c)));
    means_small = asks_means.small;
    columns_small = λ k below. omega (arith, column_weight J years o t w k below);
    priors_small = λ k below. omega (arith, prior_weight_lem J years o t w k below);
    ratios_small = λ d below. omega (arith, ratio_weight J years o t w d below);
  }
