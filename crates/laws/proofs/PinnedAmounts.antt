-- Amounts to 2^44 once more, in plain numbers: what number 9 takes, that files with amounts to 2^40 give what they gave, and how large
-- whatever is made of an accepted file's amounts may become. Nothing of `LargerAmounts`, `FileChain` and `ChainLimits` is named in what is
-- said, so that none of their laws can be weakened and still give these.
use Rattle.std.specs.Prelude.{ℕ, ◌+◌, ◌*◌, ◌-◌, ◌^◌, ◌≤◌, ◌<◌, ◌≡◌, refl, ◌⊎◌, ◌↔◌, true, false, leb, pos, nat_abs, ◌+ℤ◌, ◌-ℤ◌, ◌*ℤ◌}
use Rattle.std.proofs.Common.{subst, le-leb}
use Rattle.integers.specs.Sum.{sum}
use Rattle.definitions.specs.Words.{within}
use Rattle.definitions.specs.Layout.{Bytes, last_year, cells, amount, amount_at}
use Rattle.definitions.specs.Logarithm.{logarithm}
use Rattle.definitions.specs.Weight.{weight}
use Rattle.definitions.specs.Observations.{Chain, chain_of, σ², τ², paid_step, incurred_step, last_ratio}
use Rattle.definitions.specs.Loss.{Vector}
use Rattle.definitions.specs.Matrix.{matrix, ratios_of_last, right_hand_side, residue_times}
use Rattle.definitions.specs.Refusals.{Check, unless, fields, ◌then◌, good_amount, file_check, row_check, is_clear, accepted}
use Rattle.definitions.specs.Refusals.{check1, check2, check3, check4, check5, check6, check7, check8, check10}
use Rattle.definitions.specs.Machine.{Keeping, empty, open_unless, open_call}
use Rattle.laws.specs.Accepted.{AcceptedFile}
use Rattle.laws.proofs.Accepted.{within_yes, accepted_file}
use Rattle.laws.proofs.AcceptedBefore.{still_accepted, opened_alike, row_alike}
use Rattle.laws.proofs.LargerAmounts.{file_check_is, amounts_kept, same_but_between}
use Rattle.laws.specs.Chains.{Bounded}
use Rattle.laws.proofs.ChainLimits.{phi_firsts, psi_firsts, ratios_fit, right_hand_fits, residue_fits, numerator_fits}
use Rattle.laws.proofs.Columns.{firsts_of_phi, firsts_of_psi}
use Rattle.laws.proofs.FileChain.{logarithm_limit, x_limit, z_limit, y_limit, x_sum_fits, z_sum_fits}
use Rattle.laws.proofs.StruckFiles.{file_chain}

-- the amounts that number 9 calls good
pub amount_taken : (a : ℕ) → (good_amount a ≡ true) ↔ ((1 ≤ a) × (a ≤ 17592186044416))
amount_taken a = (
  λ e. let w = within_yes 1 (2 ^ 44) a (rw e tt) in (w.from, w.to),
  λ h. rw (le-leb 1 a h.0, le-leb a (2 ^ 44) h.1) refl,
)

module _ (f : Bytes) where
  abbrev J : ℕ
  J = last_year f

  abbrev c : Chain
  c = chain_of f

  -- ---- 1 to 10, where 9 takes every amount from 1 to a limit, and no other

  abbrev pub up_to : ℕ → Check
  up_to limit =
      check1 f then check2 f then check3 f then check4 f then check5 f then check6 f then check7 f then check8 f
      then fields (λ k. within 1 limit (amount f k)) 9 (amount_at J) 0 (2 * cells J)
      then check10 f

  -- the limit is 2^44, in every cell of every file
  pub up_to_2^44 : up_to 17592186044416 ≡ file_check f
  up_to_2^44 = file_check_is f

  -- files that are let through with 2^40
  module _ (was : is_clear (up_to 1099511627776) ≡ true) where
    pub as_before : accepted f ≡ true
    as_before = still_accepted f (up_to 1099511627776) (amounts_kept f) was

    pub opened_as_before : (X : Type 0) (K : Keeping X) → open_unless K (up_to 1099511627776) f ≡ open_call K empty f
    opened_as_before = opened_alike f (up_to 1099511627776) (amounts_kept f) was

    pub row_as_before : (channel year : ℕ)
        → up_to 1099511627776 then unless (leb channel 1) 14 0 then unless (leb year J) 15 0 ≡ row_check f channel year
    row_as_before = row_alike f (up_to 1099511627776) (amounts_kept f) was

  -- the two part at an amount above 2^40 and up to 2^44 alone
  pub same_to_2^40 : ((k : ℕ) → k < 2 * cells J → (amount f k ≤ 1099511627776) ⊎ (17592186044416 < amount f k))
      → up_to 1099511627776 ≡ file_check f
  same_to_2^40 = same_but_between f

  -- ---- sizes, of an accepted file

  module _ (yes_file : accepted f ≡ true) where
    known : AcceptedFile f
    known = accepted_file f yes_file

    bounded : Bounded c
    bounded = (file_chain f known).0

    pub logarithm_to : (k : ℕ) → k < 2 * cells J → logarithm (amount f k) ≤ 46137344
    logarithm_to k below = logarithm_limit (amount f k) (known.amounts k below)

    pub paid_step_to : (i j : ℕ) → i + j ≤ J → nat_abs (paid_step f i j) ≤ 46137344
    paid_step_to = x_limit f known

    pub incurred_step_to : (i j : ℕ) → i + j < J → nat_abs (incurred_step f i j) ≤ 46137344
    incurred_step_to = z_limit f known

    pub last_ratio_to : (i : ℕ) → i ≤ J → nat_abs (last_ratio f i) ≤ 46137344
    last_ratio_to = y_limit f known

    -- 16 observations at most, and 15
    pub paid_sum_to : (j : ℕ) → j ≤ J → nat_abs (sum (J - j + 1) (λ i. paid_step f i j)) ≤ 738197504
    paid_sum_to = x_sum_fits f known

    pub incurred_sum_to : (j : ℕ) → j < J → nat_abs (sum (J - j) (λ i. incurred_step f i j)) ≤ 692060160
    incurred_sum_to = z_sum_fits f known

    -- a part's prior and own observations, and the last ratios, as the right-hand side has them
    pub own_side_of_phi_to : (j : ℕ) → j ≤ J
        → nat_abs (pos (c.s j) *ℤ c.prior_Φ j +ℤ pos (weight (σ² f j)) *ℤ sum (J - j + 1) (λ i. c.x i j)) ≤ 1536 * 2 ^ 47
    own_side_of_phi_to j below =
        subst (λ z. nat_abs z ≤ 1536 * 2 ^ 47)
        (firsts_of_phi c j (weight (σ² f j)) (λ i. false) below (λ i there. refl)) (phi_firsts c bounded j below)

    pub own_side_of_psi_to : (j : ℕ) → j < J
        → nat_abs (pos (c.t j) *ℤ c.prior_Ψ j +ℤ pos (weight (τ² f j)) *ℤ sum (J - j) (λ i. c.z i j)) ≤ 1536 * 2 ^ 47
    own_side_of_psi_to j below =
        subst (λ z. nat_abs z ≤ 1536 * 2 ^ 47)
        (firsts_of_psi c j (weight (τ² f j)) (λ i. false) (λ i there. refl)) (psi_firsts c bounded j below)

    pub ratios_to : (m : ℕ) → m ≤ J → nat_abs (ratios_of_last c m) ≤ 660 * 2 ^ 47
    ratios_to = ratios_fit c bounded

    pub right_hand_to : (k : ℕ) → k < 2 * J + 1 → nat_abs (right_hand_side c k) ≤ 2196 * 2 ^ 47
    right_hand_to = right_hand_fits c bounded

    -- of a mean inside the limits
    pub residue_to : (μ : Vector) → ((l : ℕ) → l < 2 * J + 1 → nat_abs (μ l) ≤ 67108864)
        → (k : ℕ) → k < 2 * J + 1 → nat_abs (residue_times c 1 μ k) ≤ 19732 * 2 ^ 47
    residue_to = residue_fits c bounded

    -- what a step divides, which is below 2^63
    pub divided_to : (μ : Vector) → ((l : ℕ) → l < 2 * J + 1 → nat_abs (μ l) ≤ 67108864)
        → (k : ℕ) → k < 2 * J + 1 → nat_abs (matrix c k k -ℤ pos 2 *ℤ residue_times c 1 μ k) ≤ 39465 * 2 ^ 47
    divided_to = numerator_fits c bounded
