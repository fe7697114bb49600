-- Document 02's files without a prior. Number 7 stands here twice, side by side: by the test that it has, and by one that asks a prior of
-- every part. What the second lets through is let through alike; the two part at a prior variance of 0 and nowhere else. And a part
-- without a prior rests on its own observations, of which it has at least one. `PinnedPriors` draws all of it once more.
use Rattle.std.specs.Prelude.{ℕ, ◌+◌, ◌*◌, ◌-◌, ◌^◌, ◌≤◌, ◌<◌, ◌≡◌, refl, ◌≢◌, Bool, true, T, pos, ◌+ℤ◌, ◌-ℤ◌, ◌*ℤ◌}
use Rattle.std.proofs.Math.Path.{ap}
use Rattle.std.proofs.Common.{◌∙◌, arith, ne_eqb}
use Rattle.std.proofs.Math.IntN.{zero-*ℤ, +ℤ_idl}
use Rattle.integers.specs.Sum.{sum}
use Rattle.definitions.specs.Layout.{Bytes, last_year, parts, psi_index, prior_variance, prior_variance_at}
use Rattle.definitions.specs.Weight.{weight}
use Rattle.definitions.specs.Refusals.{Check, ◌then◌, fields, good_prior_variance, file_check, accepted}
use Rattle.definitions.specs.Refusals.{check1, check2, check3, check4, check5, check6, check7, check8, check9, check10}
use Rattle.definitions.specs.Observations.{Chain, chain_of, σ², τ², paid_step, incurred_step}
use Rattle.definitions.specs.Matrix.{own, right_hand_side, ratios_of_last}
use Rattle.laws.specs.ClearChecks.{Kept}
use Rattle.laws.proofs.ClearChecks.{kept_first, kept_second, fields_kept, fields_same}
use Rattle.laws.proofs.Accepted.{within_yes, accepted_file}
use Rattle.laws.proofs.Chains.{own_of_x, own_of_z}
use Rattle.laws.proofs.FileWeights.{p_from, q_from}
use Rattle.laws.proofs.Columns.{own_phi, own_psi, right_hand_phi, right_hand_psi}
use Rattle.laws.proofs.Ranks.{part_by_index_phi, part_by_index_psi}
use Rattle.laws.proofs.WeightLaws.{weight_of_none}
use Rattle.laws.specs.FlatPriors.{is_prior}

-- ---- number 7 by some test of a prior variance; the other numbers as they are

module _ (good : ℕ → Bool) where
  abbrev pub check7By : Bytes → Check
  check7By f = fields (λ k. good (prior_variance f k)) 7 (prior_variance_at (last_year f)) 0 (parts (last_year f))

  abbrev pub file_check_by : Bytes → Check
  file_check_by f =
      check1 f then check2 f then check3 f then check4 f then check5 f then check6 f then check7By f
      then check8 f then check9 f then check10 f

-- by the test that it has it is the definitions' check
pub file_check_is : (f : Bytes) → file_check_by good_prior_variance f ≡ file_check f
unfolding file_check check7
file_check_is f = refl

same_test : (v : ℕ) → v ≢ 0 → is_prior v ≡ good_prior_variance v
same_test v some = rw (ne_eqb v 0 some) refl

not_0 : (v : ℕ) → T (is_prior v) → v ≢ 0
not_0 v t none = omega (arith, (within_yes (2 ^ 18) (2 ^ 46) v t).from)

-- ---- what the one accepts, the other does

module _ (f : Bytes) where
  abbrev n : ℕ
  n = parts (last_year f)

  check7_kept : Kept (check7By is_prior f) (check7 f)
  unfolding check7
  check7_kept = fields_kept _ _ 7 (prior_variance_at (last_year f)) n (λ k t. same_test (prior_variance f k) (not_0 (prior_variance f k) t))

  pub priors_kept : Kept (file_check_by is_prior f) (file_check f)
  unfolding file_check
  priors_kept =
      kept_second (check1 f) (kept_second (check2 f) (kept_second (check3 f) (kept_second (check4 f) (kept_second (check5 f)
      (kept_second (check6 f) (kept_first _ check7_kept))))))

  -- the two part at a variance of 0 alone: where there is none, every file is let through or refused alike, with number and place
  pub same_but_for_0 : ((k : ℕ) → k < n → prior_variance f k ≢ 0) → file_check_by is_prior f ≡ file_check f
  unfolding file_check check7
  same_but_for_0 some =
      let same : check7By is_prior f ≡ check7By good_prior_variance f =
      fields_same _ _ 7 (prior_variance_at (last_year f)) 0 n (λ k from to. same_test (prior_variance f k) (some k (omega arith))) in
      ap (λ seventh. check1 f then check2 f then check3 f then check4 f then check5 f then check6 f then seventh
      then check8 f then check9 f then check10 f) same

-- ---- a part without a prior

module _ (f : Bytes) where
  abbrev J : ℕ
  J = last_year f

  abbrev c : Chain
  c = chain_of f

  no_weight : {v : ℕ} → v ≡ 0 → weight v ≡ 0
  no_weight none = ap weight none ∙ weight_of_none

  -- its own weight is that of its observations
  pub own_of_phi : (j : ℕ) → j ≤ J → prior_variance f j ≡ 0 → own c j ≡ (J - j + 1) * weight (σ² f j)
  own_of_phi j below none = own_phi f j below ∙ ap (λ w. w + (J - j + 1) * weight (σ² f j)) (no_weight none) ∙ omega arith

  pub own_of_psi : (j : ℕ) → j < J → prior_variance f (psi_index J j) ≡ 0 → own c (psi_index J j) ≡ (J - j) * weight (τ² f j)
  own_of_psi j below none = own_psi f j ∙ ap (λ w. w + (J - j) * weight (τ² f j)) (no_weight none) ∙ omega arith

  -- its prior mean counts in no equation: the sweep starts there, and that is all
  pub right_hand_of_phi : (j : ℕ) → j ≤ J → prior_variance f j ≡ 0
      → right_hand_side c j ≡ pos (weight (σ² f j)) *ℤ sum (J - j + 1) (λ i. paid_step f i j) +ℤ ratios_of_last c j
  right_hand_of_phi j below none = right_hand_phi f j below ∙ rw (no_weight none, zero-*ℤ, +ℤ_idl) refl

  pub right_hand_of_psi : (j : ℕ) → j < J → prior_variance f (psi_index J j) ≡ 0
      → right_hand_side c (psi_index J j) ≡ pos (weight (τ² f j)) *ℤ sum (J - j) (λ i. incurred_step f i j) -ℤ ratios_of_last c (j + 1)
  right_hand_of_psi j below none = right_hand_psi f j ∙ rw (no_weight none, zero-*ℤ, +ℤ_idl) refl

  -- every own weight, whatever the prior, is at least the weight of one observation, which is at least 1
  pub observed_phi : accepted f ≡ true → (j : ℕ) → j ≤ J → (1 ≤ weight (σ² f j)) × (weight (σ² f j) ≤ own c j)
  unfolding own
  observed_phi yes_file j below =
      let h = accepted_file f yes_file in (p_from f h j below, rw (part_by_index_phi J j below) (own_of_x c 0 j (omega arith)))

  pub observed_psi : accepted f ≡ true → (j : ℕ) → j < J → (1 ≤ weight (τ² f j)) × (weight (τ² f j) ≤ own c (psi_index J j))
  unfolding own
  observed_psi yes_file j below =
      let h = accepted_file f yes_file in (q_from f h j below, rw (part_by_index_psi J j) (own_of_z c 0 j (omega arith)))
