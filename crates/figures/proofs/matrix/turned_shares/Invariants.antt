-- `figures::matrix::turned_shares` meets its contract. The loop's invariant: the sums passed are turned.
use lib.IntN.{pos, neg_ℤ}
use Rattle.definitions.specs.Words.{part}
use Rattle.laws.specs.Filled.{Filled}
use Rattle.figures.proofs.matrix.turned_shares.Given as goal

abbrev pub invariant-loop-n : goal.invariant-loop-n
invariant-loop-n l = Filled 16 l.n (pos 0) (λ i. neg_ℤ (part l.shares i)) l.turned
