-- The chain that arrays of observations hold.
use Rattle.std.specs.Prelude.{ℕ, cond, List, ℤ}
use Rattle.definitions.specs.Layout.{psi_index}
use Rattle.definitions.specs.Observations.{Chain}
use Rattle.definitions.specs.Kept.{paid_step_in, incurred_step_in, last_ratio_in}
use Rattle.laws.specs.SameChains.{SameChain}
use Rattle.observations.specs.Arrays.{at, mean_at, prior_at, ratio_at, mark_at}

abbrev pub chain_at : ℕ → List ℤ → List ℕ → List ℕ → Chain
chain_at J ticks weights struck = record {
  last = J;
  p = λ i j. cond (mark_at struck j i) 0 (at weights j);
  q = λ i j. cond (mark_at struck (psi_index J j) i) 0 (at weights (psi_index J j));
  s = prior_at weights;
  t = λ j. prior_at weights (psi_index J j);
  g = ratio_at weights;
  x = paid_step_in ticks J;
  z = incurred_step_in ticks J;
  y = last_ratio_in ticks J;
  prior_Φ = mean_at ticks;
  prior_Ψ = λ j. mean_at ticks (psi_index J j);
}

-- every observation of a chain, with its weight, is there
abbrev pub HoldsChain : Chain → List ℤ → List ℕ → List ℕ → Type 0
HoldsChain c ticks weights struck = SameChain c (chain_at c.last ticks weights struck)
