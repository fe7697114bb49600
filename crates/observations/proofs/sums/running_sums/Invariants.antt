-- `observations::sums::running_sums` meets its contract. The loop's invariant: the total is small, and the sums of whatever the terms are
-- are there.
use Rattle.std.proofs.Common.{ℕ, ℤ, ◌≡◌, ◌<◌, ◌≤◌, ◌*◌, ◌^◌, nat_abs}
use Rattle.laws.specs.RunningSums.{Summed}
use Rattle.observations.proofs.sums.running_sums.Given as goal

abbrev pub invariant-loop-n : goal.invariant-loop-n
invariant-loop-n g l =
    (nat_abs l.total ≤ l.n * 2 ^ 58)
    × ((f : ℕ → ℤ) → ((n : ℕ) (z : ℤ) → n < l.count → goal.F-post g l.term n z → z ≡ f n) → Summed l.n f l.total l.sums)
