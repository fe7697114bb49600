-- Demand 3 is of every chain that is carried, not of those of files alone: here of one for each J whose weights differ by accident year,
-- one of them 0, in plain numbers. What is asked of a chain cannot be narrowed unseen, nor its weights by year be left out.
use Rattle.std.specs.Prelude.{ℕ, ◌-◌, ◌≤◌, ◌≡◌, refl, true}
use Rattle.std.proofs.Common.{arith}
use Rattle.integers.specs.Linear.{linear}
use Rattle.integers.specs.Summation.{sum, total}
use Rattle.definitions.specs.Words.{tab_from}
use Rattle.definitions.specs.Loss.{Vector, ratio, loss_times}
use Rattle.definitions.specs.Matrix.{part_by_index, own, matrix, right_hand_side, figures_from, passes}
use Rattle.definitions.specs.Guarantee.{Guarantee, RoundingPasses}
use Rattle.laws.specs.Chains.{Bounded, Carried}
use Rattle.laws.proofs.Demand3.{guaranteed, rounded_passes}
use Rattle.laws.specs.PinnedChains.{Figured, by_year}

-- ---- its figures and its loss for J = 2; matrix and right-hand side are differences of the loss

pub figured : Figured
unfolding sum total tab_from part_by_index own matrix right_hand_side figures_from ratio loss_times
figured = record { own_weights = refl; entries = refl; right_hands = refl; loss_of_u = refl; loss_of_half_u = refl }

-- ---- demand 3

module _ (J : ℕ) (some : 1 ≤ J) (few : J ≤ 15) where
  pub by_year_bounded : Bounded (by_year J)
  by_year_bounded = record {
    years = few;
    p_to = λ i j there. omega arith;
    q_to = λ i j there. omega arith;
    s_to = λ j below. omega arith;
    t_to = λ j below. omega arith;
    g_to = λ d below. omega arith;
    x_to = λ i j there. simp linear (omega arith);
    z_to = λ i j there. simp linear (omega arith);
    y_to = λ i below. simp linear (omega arith);
    prior_Φ_to = λ j below. omega arith;
    prior_Ψ_to = λ j below. simp linear (omega arith);
  }

  pub by_year_carried : Carried (by_year J)
  by_year_carried = record {
    x_year = λ j. J - j;
    x_there = λ j below. omega arith;
    x_counts = λ j below. omega arith;
    x_shares = λ d j past below. omega arith;
    z_year = λ j. J - 1 - j;
    z_there = λ j below. omega arith;
    z_counts = λ j below. omega arith;
    z_shares = λ d j past below. omega arith;
  }

  module _ (e : ℕ) where
    pub by_year_worth : (μ : Vector) → passes (figures_from (by_year J) e) μ ≡ true → Guarantee (by_year J) e μ
    by_year_worth μ = guaranteed (by_year J) e μ by_year_carried

    pub by_year_rounding : RoundingPasses (by_year J) e
    by_year_rounding = rounded_passes (by_year J) e by_year_carried few
