-- `figures::figures_in` meets its contract: what each call makes of the arrays is what the next one asks, and together it is the figures.
use Rattle.figures.specs.Gathered.{Made, MadeOf, asks_shares, asks_own, asks_targets, asks_matrix, all_gathered}
use Rattle.figures.proofs.figures_in.Goals as goal
use Rattle.figures.proofs.figures_in.Goals.{After-ratio_sums-ratios}

-- what is made by the ratio sums
module _ (d : After-ratio_sums-ratios) where
  abbrev made : Made
  made = record {
    left = d.left_in-left.result;
    own = d.own_weights-weighed.result;
    shared = d.shares-shared.result;
    sums = d.column_sums-sums.result;
    ratios = d.ratio_sums-ratios.result;
  }

  made_of : MadeOf d.args.ticks.now d.args.weights.now d.args.struck.now d.args.last made
  made_of = record {
    left_are = d.left_in-left.ensures;
    own_are = d.own_weights-weighed.ensures;
    shared_are = d.shares-shared.ensures;
    sums_are = d.column_sums-sums.ensures;
    ratios_are = d.ratio_sums-ratios.ensures;
  }

pub own_weights-weighed-requires : goal.own_weights-weighed-requires
own_weights-weighed-requires c = asks_own c.requires c.left_in-left.ensures

pub shares-shared-requires : goal.shares-shared-requires
shares-shared-requires c = asks_shares c.requires

pub right_hand_of-targets-requires : goal.right_hand_of-targets-requires
right_hand_of-targets-requires c = asks_targets c.requires (made_of (goal.at.right_hand_of-targets-requires c).After-ratio_sums-ratios)

pub fill_matrix-requires : goal.fill_matrix-requires
fill_matrix-requires c = asks_matrix c.requires (made_of (goal.at.fill_matrix-requires c).After-ratio_sums-ratios)

pub returns : goal.returns
returns c =
    all_gathered (made_of (goal.at.returns c).After-ratio_sums-ratios) c.right_hand_of-targets.ensures c.fill_matrix.ensures
