-- Files without a prior once more, as `Pinned` has demand 3: in plain numbers and with nothing of `FlatPriors` named in what is said, so
-- that none of its laws can be weakened and still give these.
use Rattle.std.specs.Prelude.{ℕ, ◌+◌, ◌*◌, ◌-◌, ◌^◌, ◌≤◌, ◌<◌, ◌≡◌, refl, ◌≢◌, ◌⊎◌, ◌↔◌, true, leb, pos, ◌+ℤ◌, ◌-ℤ◌, ◌*ℤ◌}
use Rattle.std.proofs.Common.{inl, inr, arith, le-leb, ne_eqb}
use Rattle.integers.specs.Sum.{sum}
use Rattle.definitions.specs.Words.{within}
use Rattle.definitions.specs.Layout.{Bytes, last_year, prior_variance, prior_variance_at}
use Rattle.definitions.specs.Weight.{weight}
use Rattle.definitions.specs.Observations.{Chain, chain_of, σ², τ², paid_step, incurred_step}
use Rattle.definitions.specs.Matrix.{own, right_hand_side, ratios_of_last}
use Rattle.definitions.specs.Refusals.{Check, unless, fields, ◌then◌, good_prior_variance, file_check, row_check, is_clear, accepted}
use Rattle.definitions.specs.Refusals.{check1, check2, check3, check4, check5, check6, check8, check9, check10}
use Rattle.definitions.specs.Machine.{Keeping, empty, open_unless, open_call}
use Rattle.laws.specs.Accepted.{Within}
use Rattle.laws.proofs.Accepted.{prior_yes}
use Rattle.laws.proofs.AcceptedBefore.{still_accepted, opened_alike, row_alike}
use Rattle.laws.proofs.FlatPriors.{priors_kept, same_but_for_0}
use Rattle.laws.proofs.FlatPriors.{own_of_phi, own_of_psi, right_hand_of_phi, right_hand_of_psi, observed_phi, observed_psi}

-- the prior variances that number 7 takes
pub prior_variance_taken : (v : ℕ) → (good_prior_variance v ≡ true) ↔ ((v ≡ 0) ⊎ ((262144 ≤ v) × (v ≤ 70368744177664)))
prior_variance_taken v = (λ e. told (prior_yes v (rw e tt)), taken)
  where
    told : (v ≡ 0) ⊎ Within (2 ^ 18) (2 ^ 46) v → (v ≡ 0) ⊎ ((262144 ≤ v) × (v ≤ 70368744177664))
    told (inl none) = inl none
    told (inr some) = inr (some.from, some.to)

    taken : (v ≡ 0) ⊎ ((262144 ≤ v) × (v ≤ 70368744177664)) → good_prior_variance v ≡ true
    taken (inl none) = rw none refl
    taken (inr some) = rw (ne_eqb v 0 (λ none. omega (arith, some.0)), le-leb (2 ^ 18) v some.0, le-leb v (2 ^ 46) some.1) refl

module _ (f : Bytes) where
  abbrev J : ℕ
  J = last_year f

  abbrev c : Chain
  c = chain_of f

  -- 1 to 10, where 7 asks 2^18 to 2^46 of every prior variance
  abbrev with_priors : Check
  with_priors =
      check1 f then check2 f then check3 f then check4 f then check5 f then check6 f
      then fields (λ k. within 262144 70368744177664 (prior_variance f k)) 7 (prior_variance_at J) 0 (2 * J + 1)
      then check8 f then check9 f then check10 f

  module _ (was : is_clear with_priors ≡ true) where
    pub accepted_still : accepted f ≡ true
    accepted_still = still_accepted f with_priors (priors_kept f) was

    pub opened_still : (X : Type 0) (K : Keeping X) → open_unless K with_priors f ≡ open_call K empty f
    opened_still = opened_alike f with_priors (priors_kept f) was

    pub row_still : (channel year : ℕ)
        → with_priors then unless (leb channel 1) 14 0 then unless (leb year J) 15 0 ≡ row_check f channel year
    row_still = row_alike f with_priors (priors_kept f) was

  pub same_with_priors : ((k : ℕ) → k < 2 * J + 1 → prior_variance f k ≢ 0) → with_priors ≡ file_check f
  same_with_priors = same_but_for_0 f

  pub phi_alone : (j : ℕ) → j ≤ J → prior_variance f j ≡ 0
      → (own c j ≡ (J - j + 1) * weight (σ² f j))
      × (right_hand_side c j ≡ pos (weight (σ² f j)) *ℤ sum (J - j + 1) (λ i. paid_step f i j) +ℤ ratios_of_last c j)
  phi_alone j below none = (own_of_phi f j below none, right_hand_of_phi f j below none)

  pub psi_alone : (j : ℕ) → j < J → prior_variance f (J + 1 + j) ≡ 0
      → (own c (J + 1 + j) ≡ (J - j) * weight (τ² f j))
      × (right_hand_side c (J + 1 + j) ≡ pos (weight (τ² f j)) *ℤ sum (J - j) (λ i. incurred_step f i j) -ℤ ratios_of_last c (j + 1))
  psi_alone j below none = (own_of_psi f j below none, right_hand_of_psi f j below none)

  pub phi_owned : accepted f ≡ true → (j : ℕ) → j ≤ J → (1 ≤ weight (σ² f j)) × (weight (σ² f j) ≤ own c j)
  phi_owned = observed_phi f

  pub psi_owned : accepted f ≡ true → (j : ℕ) → j < J → (1 ≤ weight (τ² f j)) × (weight (τ² f j) ≤ own c (J + 1 + j))
  psi_owned = observed_psi f
