-- `striking::anew::made_anew` meets its contract: what is inside its limits is what the figures ask for.
use Rattle.definitions.specs.Layout.{parts}
use Rattle.observations.specs.Inside.{WeightsInside}
use Rattle.observations.specs.Means.{OfMeans}
use Rattle.figures.specs.Gathered.{OfObservations}
use Rattle.striking.proofs.AnewLaws.{asks_figures, asks_means}
use Rattle.striking.proofs.anew.made_anew.Goals as goal
use Rattle.striking.proofs.anew.made_anew.Goals.{After-weights_inside-weighed}

-- ticks and weights are inside their limits
module _ (c : After-weights_inside-weighed) where
  weighed : WeightsInside (parts c.args.last) c.args.weights.now c.weights_inside-weighed.result
  weighed = c.weights_inside-weighed.ensures

  asked : OfObservations c.ticks_inside-logs.result c.weights_inside-weighed.result c.args.last
  asked =
      asks_figures c.args.last c.requires.few c.args.ticks.now c.args.weights.now
      c.ticks_inside-logs.ensures weighed

  asked_means : OfMeans c.ticks_inside-logs.result c.args.last
  asked_means =
      asks_means c.args.last c.requires.few c.args.ticks.now c.args.weights.now
      c.ticks_inside-logs.ensures weighed

pub figures_in-requires : goal.figures_in-requires
figures_in-requires c = asked (goal.at.figures_in-requires c).After-weights_inside-weighed

pub start_mean-requires : goal.start_mean-requires
start_mean-requires c = asked_means (goal.at.start_mean-requires c).After-weights_inside-weighed

pub returns : goal.returns
returns c =
    record {
      ticks_are = c.ticks_inside-logs.ensures;
      weights_are = weighed (goal.at.returns c).After-weights_inside-weighed;
      figures_are = c.figures_in.ensures;
      means_are = c.start_mean.ensures;
    }
