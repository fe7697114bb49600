-- What the arrays of observations stand for.
use Rattle.std.specs.Prelude.{ℕ, ◌+◌, ◌*◌, ◌^◌, min, max, Bool, false, not, cond, List, ℤ, pos, negsuc, get_or, eqb}
use Rattle.integers.specs.Summation.{total}
use Rattle.definitions.specs.Words.{tab_from, part}
use Rattle.definitions.specs.Layout.{parts, cells}
use Rattle.definitions.specs.Logarithm.{ticks_per_doubling}
use Rattle.definitions.specs.Sweep.{bring_back}
use Rattle.definitions.specs.Kept.{Observed, Marks, steps_of}
use Rattle.observations.specs.declared.Observations.{Observations}

-- element k of an array of naturals
abbrev pub at : List ℕ → ℕ → ℕ
at v k = get_or v k 0

-- ---- places

-- the prior mean and the prior's weight of part k, and the weight of the ratio of development year d
abbrev pub mean_at : List ℤ → ℕ → ℤ
mean_at ticks k = part ticks (272 + k)

abbrev pub prior_at : List ℕ → ℕ → ℕ
prior_at weights k = at weights (31 + k)

abbrev pub ratio_at : List ℕ → ℕ → ℕ
ratio_at weights d = at weights (62 + d)

-- whether the step of part k and accident year i is marked: it is where its number is not 0
abbrev pub mark_at : List ℕ → ℕ → ℕ → Bool
mark_at struck k i = not (eqb (at struck (16 * k + i)) 0)

-- how many of part k's first n steps are not
abbrev pub unmarked : List ℕ → ℕ → ℕ → ℕ
unmarked struck k n = total n (λ i. cond (mark_at struck k i) 0 1)

-- arrays that are lent one by one
abbrev pub observations_at : List ℤ → List ℕ → List ℕ → List ℕ → Observations
observations_at ticks weights variances struck = record { ticks = ticks; weights = weights; variances = variances; struck = struck }

-- ---- what is kept

-- A number of a session that no call made may be anything: it counts as the nearest one inside its limits, so that whatever reads it has
-- no more to test. Those that calls put there are inside, and count as they are.
abbrev pub brought_within : ℕ → ℕ → ℕ → ℕ
brought_within lo hi v = max lo (min hi v)

-- a logarithm, from 0 to that of the largest amount
unfoldable pub log_within : ℤ → ℤ
log_within (pos n) = pos (min (44 * ticks_per_doubling) n)
log_within (negsuc n) = pos 0

unfoldable pub observed_in : ℕ → Observations → Observed
observed_in J o = record {
  logarithms = tab_from 0 (2 * cells J) (λ c. log_within (part o.ticks c));
  variances = tab_from 0 (parts J) (λ k. brought_within (2 ^ 18) (2 ^ 40) (at o.variances k));
  weights = tab_from 0 (parts J) (λ k. brought_within 1 (2 ^ 28) (at o.weights k));
  prior_weights = tab_from 0 (parts J) (λ k. brought_within 0 (2 ^ 28) (prior_at o.weights k));
  ratio_weights = tab_from 0 J (λ d. brought_within 0 (2 ^ 27) (ratio_at o.weights d));
  prior_means = tab_from 0 (parts J) (λ k. bring_back (mean_at o.ticks k));
}

-- a mark as it is read: in a column that is marked throughout no step is struck
abbrev pub struck_at : ℕ → List ℕ → ℕ → ℕ → Bool
struck_at J struck k i = cond (eqb (unmarked struck k (steps_of J k)) 0) false (mark_at struck k i)

unfoldable pub struck_in : ℕ → Observations → Marks
struck_in J o = tab_from 0 (parts J) (λ k. tab_from 0 (steps_of J k) (struck_at J o.struck k))
