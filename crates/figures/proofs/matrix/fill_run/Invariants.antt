-- `figures::matrix::fill_run` meets its contract. The loop's invariant: the cells passed are filled, and those before the run are as
-- they were.
use Rattle.figures.specs.Entries.{Stretch, run_of}
use Rattle.figures.proofs.matrix.fill_run.Given as goal

abbrev pub invariant-loop-n : goal.invariant-loop-n
invariant-loop-n l = Stretch l.n l.at (run_of l.shares l.rank l.first) l.initial.matrix l.matrix
