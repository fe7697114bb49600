-- `figures::matrix::fill_shares` meets its contract: two runs, one behind the other, are the row.
use Prim.Native.Nat.{◌≤◌}
use native.Mathlib.Omega.{arith}
use Rattle.laws.proofs.Ranks.{rank_below}
use Rattle.figures.specs.EntryLaws.{stretch_join, stretch_to, run_phi, run_psi}
use Rattle.figures.proofs.matrix.fill_shares.Goals as goal
use Rattle.figures.proofs.matrix.fill_shares.Goals.{After-rank_of-rank}

rank_few : (c : After-rank_of-rank) → c.rank_of-rank.result ≤ c.args.last
rank_few c = omega (arith, c.rank_of-rank.ensures, rank_below c.args.last c.args.k c.requires.row)

pub fill_run-requires : goal.fill_run-requires
fill_run-requires c =
    let after_rank_of_rank = (goal.at.fill_run-requires c).After-rank_of-rank in
    record {
      long = c.requires.long;
      room = omega (arith, c.requires.row, c.requires.few);
      ranked = omega (arith, rank_few after_rank_of_rank, c.requires.few);
      from = omega arith;
      small = λ n h. c.requires.phis_small n (omega (arith, rank_few after_rank_of_rank));
    }

pub fill_run-requires-2 : goal.fill_run-requires-2
fill_run-requires-2 c =
    let after_rank_of_rank = (goal.at.fill_run-requires-2 c).After-rank_of-rank in
    record {
      long = c.fill_run.ensures.long;
      room = omega (arith, c.requires.row, c.requires.few);
      ranked = omega (arith, rank_few after_rank_of_rank, c.requires.few);
      from = omega arith;
      small = λ n h. c.requires.psis_small n (omega (arith, rank_few after_rank_of_rank));
    }

pub returns : goal.returns
returns c =
    let a = c.args in
    let e = c.rank_of-rank.ensures in
    stretch_to (omega arith)
    (stretch_join c.fill_run.ensures (omega arith) c.fill_run-2.ensures
    (λ l below. run_phi a.phis.now a.psis.now a.last a.k c.rank_of-rank.result e l (omega arith))
    (λ l from below. run_psi a.phis.now a.psis.now a.last a.k c.rank_of-rank.result e l (omega arith)))
