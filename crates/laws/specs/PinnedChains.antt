-- Demand 3 is of every chain that is carried, not of those of files alone: here of one for each J whose weights differ by accident year,
-- one of them 0, in plain numbers. What is asked of a chain cannot be narrowed unseen, nor its weights by year be left out.
use Rattle.std.specs.Prelude.{ℕ, ◌+◌, ◌*◌, ◌≡◌, [], ◌∷◌, pos, negsuc, ◌-ℤ◌}
use Rattle.definitions.specs.Words.{part}
use Rattle.definitions.specs.Observations.{Chain}
use Rattle.definitions.specs.Loss.{Vector, loss, loss_times}
use Rattle.definitions.specs.Matrix.{figures_from}

abbrev pub by_year : ℕ → Chain
by_year J = record {
  last = J;
  p = λ i j. 3 * i + 7 * j;
  q = λ i j. 17 * i + 19 * j + 2;
  s = λ j. 2 * j;
  t = λ j. 5 * j;
  g = λ d. 2 + d;
  x = λ i j. pos (100 * i) -ℤ pos (30 * j + 7);
  z = λ i j. pos (8 * j) -ℤ pos (5 * i + 1);
  y = λ i. pos (10 * i) -ℤ pos 13;
  prior_Φ = λ j. pos (1000 * j);
  prior_Ψ = λ j. pos 0 -ℤ pos (2000 * j + 3);
}

abbrev pub u : Vector
u = part (pos 1 ∷ negsuc 1 ∷ pos 3 ∷ negsuc 3 ∷ pos 5 ∷ [])

pub record Figured : Type 0 where
  pub own_weights : (figures_from (by_year 2) 1).own ≡ 9 ∷ 19 ∷ 18 ∷ 21 ∷ 26 ∷ []
  pub entries : (figures_from (by_year 2) 1).matrix
      ≡ (pos 9 ∷ pos 0 ∷ pos 0 ∷ pos 0 ∷ pos 0 ∷ [])
      ∷ (pos 0 ∷ pos 21 ∷ pos 2 ∷ negsuc 1 ∷ negsuc 1 ∷ [])
      ∷ (pos 0 ∷ pos 2 ∷ pos 23 ∷ negsuc 1 ∷ negsuc 4 ∷ [])
      ∷ (pos 0 ∷ negsuc 1 ∷ negsuc 1 ∷ pos 23 ∷ pos 2 ∷ [])
      ∷ (pos 0 ∷ negsuc 1 ∷ negsuc 4 ∷ pos 2 ∷ pos 31 ∷ []) ∷ []
  pub right_hands : (figures_from (by_year 2) 1).right_hand_side ≡ pos 1437 ∷ pos 2385 ∷ pos 7067 ∷ negsuc 129 ∷ negsuc 9872 ∷ []
  pub loss_of_u : loss (by_year 2) u ≡ pos 38486644
  -- times 4
  pub loss_of_half_u : loss_times (by_year 2) 2 u ≡ pos 153818933
