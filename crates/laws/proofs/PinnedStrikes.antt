-- Struck steps once more, in document 02's letters and with nothing named: what own weight and right-hand side are without them, for
-- whatever is struck; that one more takes its term out of the loss; and that every file which calls reach is accepted and has a step left
-- in each column, so that demand 3 is promised of it.
use Rattle.std.specs.Prelude.{ℕ, ◌+◌, ◌-◌, ◌≤◌, ◌<◌, ◌≡◌, true, false, cond, List, ◌∷◌, ℤ, pos, ◌+ℤ◌, ◌-ℤ◌, ◌*ℤ◌}
use Rattle.std.proofs.Math.Path.{ap}
use Rattle.std.proofs.Common.{subst}
use Rattle.integers.specs.Sum.{sum, total}
use Rattle.definitions.specs.Layout.{last_year, psi_index, prior_variance, prior_mean}
use Rattle.definitions.specs.Weight.{weight}
use Rattle.definitions.specs.Refusals.{accepted}
use Rattle.definitions.specs.Observations.{chain_of, σ², τ², paid_step, incurred_step}
use Rattle.definitions.specs.Loss.{loss_times}
use Rattle.definitions.specs.Matrix.{own_of, own, target_of, right_hand_side, ratios_of_last}
use Rattle.definitions.specs.Strikes.{step, StruckFile, is_among, chain_left}
use Rattle.definitions.specs.Machine.{Call, empty, holds}
use Rattle.laws.proofs.Ranks.{part_by_index_phi, part_by_index_psi}
use Rattle.laws.proofs.StruckChain.{left_x, left_z}
use Rattle.laws.proofs.StruckLoss.{paid_leaves, incurred_leaves}
use Rattle.laws.specs.ReachedStates.{after}
use Rattle.laws.proofs.ReachedStates.{Good, reached_good}

module _ (f : StruckFile) (j : ℕ) where
  abbrev J : ℕ
  J = last_year f.file

  -- what a step counts for, by its weight
  abbrev left : ℕ → ℕ → ℕ → ℕ
  left channel i w = cond (is_among f.struck (step channel i j)) 0 w

  module _ (below : j ≤ last_year f.file) where
    pub phi_left : own (chain_left f) j ≡ weight (prior_variance f.file j) + total (J - j + 1) (λ i. left 0 i (weight (σ² f.file j)))
    unfolding own
    phi_left = ap (own_of (chain_left f)) (part_by_index_phi J j below)

    pub right_hand_phi_left : right_hand_side (chain_left f) j
        ≡ pos (weight (prior_variance f.file j)) *ℤ prior_mean f.file j
        +ℤ sum (J - j + 1) (λ i. pos (left 0 i (weight (σ² f.file j))) *ℤ paid_step f.file i j)
        +ℤ ratios_of_last (chain_left f) j
    unfolding right_hand_side
    right_hand_phi_left = ap (target_of (chain_left f)) (part_by_index_phi J j below)

  pub psi_left : own (chain_left f) (psi_index J j)
      ≡ weight (prior_variance f.file (psi_index J j)) + total (J - j) (λ i. left 1 i (weight (τ² f.file j)))
  unfolding own
  psi_left = ap (own_of (chain_left f)) (part_by_index_psi J j)

  pub right_hand_psi_left : right_hand_side (chain_left f) (psi_index J j)
      ≡ pos (weight (prior_variance f.file (psi_index J j))) *ℤ prior_mean f.file (psi_index J j)
      +ℤ sum (J - j) (λ i. pos (left 1 i (weight (τ² f.file j))) *ℤ incurred_step f.file i j)
      -ℤ ratios_of_last (chain_left f) (j + 1)
  unfolding right_hand_side
  right_hand_psi_left = ap (target_of (chain_left f)) (part_by_index_psi J j)

-- its term leaves the loss, of every vector u/m times m², and nothing else does
module _ (f : StruckFile) (i j m : ℕ) (u : ℕ → ℤ) where
  pub paid_term_leaves : i + j ≤ last_year f.file → is_among f.struck (step 0 i j) ≡ false
      → loss_times (chain_left f) m u
      ≡ loss_times (chain_left (record { file = f.file; struck = step 0 i j ∷ f.struck })) m u
      +ℤ pos (weight (σ² f.file j)) *ℤ ((u j -ℤ pos m *ℤ paid_step f.file i j) *ℤ (u j -ℤ pos m *ℤ paid_step f.file i j))
  paid_term_leaves = paid_leaves (chain_of f.file) (is_among f.struck) i j m u

  pub incurred_term_leaves : i + j < last_year f.file → is_among f.struck (step 1 i j) ≡ false
      → let d : ℤ = u (last_year f.file + 1 + j) -ℤ pos m *ℤ incurred_step f.file i j in
      loss_times (chain_left f) m u
      ≡ loss_times (chain_left (record { file = f.file; struck = step 1 i j ∷ f.struck })) m u
      +ℤ pos (weight (τ² f.file j)) *ℤ (d *ℤ d)
  incurred_term_leaves = incurred_leaves (chain_of f.file) (is_among f.struck) i j m u

module _ (calls : List Call) (f : StruckFile) (μ : List ℤ) (count : ℕ) (reached : after empty calls ≡ holds f μ count) where
  good : Good (holds f μ count)
  good = subst Good reached (reached_good calls)

  pub reached_accepted : accepted f.file ≡ true
  reached_accepted = good.0.taken

  pub reached_paid : (j : ℕ) → j ≤ last_year f.file
      → (i : ℕ) × (i + j ≤ last_year f.file) × (is_among f.struck (step 0 i j) ≡ false)
  reached_paid = left_x (chain_left f) (is_among f.struck) good.0.left

  pub reached_incurred : (j : ℕ) → j < last_year f.file
      → (i : ℕ) × (i + j < last_year f.file) × (is_among f.struck (step 1 i j) ≡ false)
  reached_incurred = left_z (chain_left f) (is_among f.struck) good.0.left
