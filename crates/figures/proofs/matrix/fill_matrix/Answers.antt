-- `figures::matrix::fill_matrix` meets its contract. The loop's invariant: the rows passed are filled.
use native.Mathlib.Omega.{arith}
use lib.IntN.{pos}
use lib.ListN.{length-replicate}
use Rattle.figures.specs.EntryLaws.{rows_none, rows_next, rows_to}
use Rattle.figures.proofs.matrix.fill_matrix.Goals as goal

pub turned_shares-turned-requires : goal.turned_shares-turned-requires
turned_shares-turned-requires c = record { few = c.requires.few; small = c.requires.shares_small }

pub loop-k-init : goal.loop-k-init
loop-k-init c = rows_none _ (length-replicate 961 (pos 0))

pub fill_row-requires : goal.fill_row-requires
fill_row-requires c =
    record {
      long = c.loop-k.invariant.long;
      of_row = record { of_matrix = c.requires; row = omega (arith, c.loop-k-test.true) };
      of_turned = c.turned_shares-turned.ensures;
    }

pub loop-k-preserved : goal.loop-k-preserved
loop-k-preserved c =
    rows_next c.requires.few c.loop-k.invariant c.fill_row.ensures

pub returns : goal.returns
returns c = record { whole = rows_to (omega arith) c.loop-k.invariant }
