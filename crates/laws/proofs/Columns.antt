-- Where the observations of a column have one weight, as those of a file have, struck ones aside, the sums over weights are document 01's:
-- an own weight is the prior's and the count times the weight, and a right-hand side has the weight times the sum of the observations.
use Rattle.std.specs.Prelude.{ℕ, ◌+◌, ◌*◌, ◌-◌, ◌≤◌, ◌<◌, ◌≡◌, refl, Bool, true, false, cond, [], ◌∷◌, ℤ, pos, ◌+ℤ◌, ◌-ℤ◌, ◌*ℤ◌}
use Rattle.std.proofs.Math.Path.{ap}
use Rattle.std.proofs.Common.{◌∙◌, arith}
use Rattle.integers.specs.Sum.{sum, total, sum_cong, sum_scale}
use Rattle.integers.specs.Total.{total_cong, total_const, total_scale_right}
use Rattle.integers.specs.Solver.{ring, ◌⊠◌, num, ◌≐◌}
use Rattle.definitions.specs.Layout.{Bytes, last_year, psi_index, prior_variance, prior_mean}
use Rattle.definitions.specs.Weight.{weight}
use Rattle.definitions.specs.Observations.{Chain, chain_of, σ², τ², paid_step, incurred_step}
use Rattle.definitions.specs.Matrix.{Φ, Ψ, own_of, own, target_of, right_hand_side, ratios_of_last}
use Rattle.laws.specs.PrecisionMatrix.{firsts_of}
use Rattle.laws.proofs.Ranks.{part_by_index_phi, part_by_index_psi}
use Rattle.laws.specs.Columns.{OwnOfPhi}
use Rattle.laws.specs.StruckSteps.{left_of}

-- n observations of one weight, of which some are struck
module _ (n w : ℕ) (p : ℕ → ℕ) (struck : ℕ → Bool) (one : (i : ℕ) → i < n → p i ≡ cond (struck i) 0 w) where
  total_of_one : total n p ≡ left_of n struck * w
  total_of_one =
      total_cong n (λ i below. one i below ∙ by_mark (struck i)) ∙ total_scale_right n w (λ i. cond (struck i) 0 1)
    where
      alone : (w : ℕ) → w ≡ 1 * w
      alone w = omega arith

      by_mark : (t : Bool) → cond t 0 w ≡ cond t 0 1 * w
      by_mark true = omega arith
      by_mark false = alone w

  sum_of_one : (o : ℕ → ℤ) → sum n (λ i. pos (p i) *ℤ o i) ≡ pos w *ℤ sum n (λ i. cond (struck i) (pos 0) (o i))
  sum_of_one o =
      sum_cong n (λ i below. ap (λ v. pos v *ℤ o i) (one i below) ∙ by_mark (struck i) (o i))
      ∙ sum_scale n (pos w) (λ i. cond (struck i) (pos 0) (o i))
    where
      by_mark : (t : Bool) (z : ℤ) → pos (cond t 0 w) *ℤ z ≡ pos w *ℤ cond t (pos 0) z
      by_mark true z = ring (z ∷ pos w ∷ []) (λ z w. num 0 ⊠ z ≐ w ⊠ num 0) tt
      by_mark false z = refl

module _ (c : Chain) where
  module _ (j w : ℕ) (struck : ℕ → Bool) (below : j ≤ c.last) (one : (i : ℕ) → i + j ≤ c.last → c.p i j ≡ cond (struck i) 0 w) where
    pub own_of_phi : OwnOfPhi c j w struck
    own_of_phi = ap (λ t. c.s j + t) (total_of_one (c.last - j + 1) w (λ i. c.p i j) struck (λ i there. one i (omega arith)))

    pub firsts_of_phi : firsts_of c (Φ j)
        ≡ pos (c.s j) *ℤ c.prior_Φ j +ℤ pos w *ℤ sum (c.last - j + 1) (λ i. cond (struck i) (pos 0) (c.x i j))
    firsts_of_phi =
        ap (λ t. pos (c.s j) *ℤ c.prior_Φ j +ℤ t)
        (sum_of_one (c.last - j + 1) w (λ i. c.p i j) struck (λ i there. one i (omega arith)) (λ i. c.x i j))

  module _ (j w : ℕ) (struck : ℕ → Bool) (one : (i : ℕ) → i + j < c.last → c.q i j ≡ cond (struck i) 0 w) where
    pub own_of_psi : own_of c (Ψ j) ≡ c.t j + left_of (c.last - j) struck * w
    own_of_psi = ap (λ t. c.t j + t) (total_of_one (c.last - j) w (λ i. c.q i j) struck (λ i there. one i (omega arith)))

    pub firsts_of_psi : firsts_of c (Ψ j)
        ≡ pos (c.t j) *ℤ c.prior_Ψ j +ℤ pos w *ℤ sum (c.last - j) (λ i. cond (struck i) (pos 0) (c.z i j))
    firsts_of_psi =
        ap (λ t. pos (c.t j) *ℤ c.prior_Ψ j +ℤ t)
        (sum_of_one (c.last - j) w (λ i. c.q i j) struck (λ i there. one i (omega arith)) (λ i. c.z i j))

-- ---- document 01's formulas, of every file

-- none is struck
all_left : (n : ℕ) → left_of n (λ i. false) ≡ n
all_left n = total_const n 1 ∙ alone n
  where
    alone : (n : ℕ) → n * 1 ≡ n
    alone n = omega arith

module _ (f : Bytes) (j : ℕ) where
  abbrev J : ℕ
  J = last_year f

  abbrev c : Chain
  c = chain_of f

  module _ (below : j ≤ J) where
    pub own_phi : own c j ≡ weight (prior_variance f j) + (J - j + 1) * weight (σ² f j)
    unfolding own
    own_phi =
        ap (own_of c) (part_by_index_phi J j below)
        ∙ own_of_phi c j (weight (σ² f j)) (λ i. false) below (λ i there. refl)
        ∙ ap (λ n. weight (prior_variance f j) + n * weight (σ² f j)) (all_left (J - j + 1))

    pub right_hand_phi :
        right_hand_side c j
        ≡ pos (weight (prior_variance f j)) *ℤ prior_mean f j +ℤ pos (weight (σ² f j)) *ℤ sum (J - j + 1) (λ i. paid_step f i j)
        +ℤ ratios_of_last c j
    unfolding right_hand_side
    right_hand_phi =
        ap (target_of c) (part_by_index_phi J j below)
        ∙ ap (λ z. z +ℤ ratios_of_last c j) (firsts_of_phi c j (weight (σ² f j)) (λ i. false) below (λ i there. refl))

  pub own_psi : own c (psi_index J j) ≡ weight (prior_variance f (psi_index J j)) + (J - j) * weight (τ² f j)
  unfolding own
  own_psi =
      ap (own_of c) (part_by_index_psi J j)
      ∙ own_of_psi c j (weight (τ² f j)) (λ i. false) (λ i there. refl)
      ∙ ap (λ n. weight (prior_variance f (psi_index J j)) + n * weight (τ² f j)) (all_left (J - j))

  pub right_hand_psi :
      right_hand_side c (psi_index J j)
      ≡ pos (weight (prior_variance f (psi_index J j))) *ℤ prior_mean f (psi_index J j)
      +ℤ pos (weight (τ² f j)) *ℤ sum (J - j) (λ i. incurred_step f i j)
      -ℤ ratios_of_last c (j + 1)
  unfolding right_hand_side
  right_hand_psi =
      ap (target_of c) (part_by_index_psi J j)
      ∙ ap (λ z. z -ℤ ratios_of_last c (j + 1)) (firsts_of_psi c j (weight (τ² f j)) (λ i. false) (λ i there. refl))
