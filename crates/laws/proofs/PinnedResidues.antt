-- Residues by observations once more, in document 02's letters and with nothing named: what they are of a file, whatever steps are struck;
-- that they are row of the matrix times mean less right-hand side; and that of every session that calls reach and every mean inside the
-- limits what is written is read back as that.
use Prim.Native.Nat.{ℕ, ◌+◌, ◌*◌, ◌-◌, ◌≤◌, ◌<◌}
use Rattle.std.specs.Prelude.{◌≡◌, cond, List, ◌++◌, ℤ, pos, nat_abs, ◌*ℤ◌}
use Rattle.std.proofs.Math.Path.{sym, ap, ap₂}
use Rattle.std.proofs.Common.{subst, ◌∙◌}
use Rattle.std.proofs.Math.IntN.{◌+ℤ◌, ◌-ℤ◌}
use Rattle.integers.specs.Ring.{*ℤ_idl}
use Rattle.integers.specs.Sum.{sum, sum_cong}
use Rattle.definitions.specs.Layout.{Bytes, last_year, closeness, psi_index, prior_variance, prior_mean}
use Rattle.definitions.specs.Weight.{weight}
use Rattle.definitions.specs.Observations.{σ², τ², ratio_variance, paid_step, incurred_step, last_ratio}
use Rattle.definitions.specs.Loss.{Vector, ratio}
use Rattle.definitions.specs.Matrix.{matrix, right_hand_side, residue_times, residue}
use Rattle.definitions.specs.Residues.{ratios_missed, residue_by, observed_times, residue_bytes, residue_at}
use Rattle.definitions.specs.Strikes.{step, StruckFile, is_among, chain_left, figures_left}
use Rattle.definitions.specs.Machine.{Call, empty, holds}
use Rattle.laws.proofs.ObservedResidues.{observed_is_residue, residues_read}
use Rattle.laws.proofs.Ranks.{part_by_index_phi, part_by_index_psi}
use Rattle.laws.specs.ReachedStates.{after}
use Rattle.laws.proofs.ReachedStates.{Good, reached_good}
use Rattle.laws.proofs.StruckFiles.{struck_chain}
use Rattle.laws.proofs.Theorem34.{residue_is_observed}

module _ (f : StruckFile) (u : Vector) where
  abbrev J : ℕ
  J = last_year f.file

  abbrev residue_of : ℕ → ℤ
  residue_of = observed_times (chain_left f) 1 u

  -- what a step of column j counts for
  abbrev left : ℕ → ℕ → ℕ → ℕ → ℕ
  left channel j i w = cond (is_among f.struck (step channel i j)) 0 w

  -- weight times difference of the ratio of accident year i
  abbrev ratio_of : ℕ → ℤ
  ratio_of i =
      pos (weight (ratio_variance f.file (J - i)))
      *ℤ (sum i (λ m. u (J - i + 1 + m)) -ℤ sum i (λ n. u (J + 1 + (J - i + n))) -ℤ last_ratio f.file i)

  -- of the n accident years up to J
  abbrev ratios_of : ℕ → ℤ
  ratios_of n = sum n (λ k. ratio_of (J - n + 1 + k))

  once : (w : ℕ) (v z : ℤ) → pos w *ℤ (v -ℤ pos 1 *ℤ z) ≡ pos w *ℤ (v -ℤ z)
  once w v z = ap (λ y. pos w *ℤ (v -ℤ y)) (*ℤ_idl z)

  ratios_are : (n : ℕ) → ratios_missed (chain_left f) 1 u n ≡ ratios_of n
  unfolding ratio
  ratios_are n = sum_cong n (λ k _.
      let i : ℕ = J - n + 1 + k in once (weight (ratio_variance f.file (J - i))) (ratio (chain_left f) u i) (last_ratio f.file i))

  pub residue_of_phi : (j : ℕ) → j ≤ last_year f.file
      → residue_of j
      ≡ pos (weight (prior_variance f.file j)) *ℤ (u j -ℤ prior_mean f.file j)
      +ℤ sum (J - j + 1) (λ i. pos (left 0 j i (weight (σ² f.file j))) *ℤ (u j -ℤ paid_step f.file i j))
      +ℤ ratios_of j
  unfolding observed_times
  residue_of_phi j few =
      ap (residue_by (chain_left f) 1 u) (part_by_index_phi J j few)
      ∙ ap₂ ◌+ℤ◌
      (ap₂ ◌+ℤ◌ (once ((chain_left f).s j) (u j) (prior_mean f.file j))
      (sum_cong (J - j + 1) (λ i _. once ((chain_left f).p i j) (u j) (paid_step f.file i j))))
      (ratios_are j)

  pub residue_of_psi : (j : ℕ)
      → residue_of (J + 1 + j)
      ≡ pos (weight (prior_variance f.file (J + 1 + j))) *ℤ (u (J + 1 + j) -ℤ prior_mean f.file (J + 1 + j))
      +ℤ sum (J - j) (λ i. pos (left 1 j i (weight (τ² f.file j))) *ℤ (u (J + 1 + j) -ℤ incurred_step f.file i j))
      -ℤ ratios_of (j + 1)
  unfolding observed_times
  residue_of_psi j =
      ap (residue_by (chain_left f) 1 u) (part_by_index_psi J j)
      ∙ ap₂ ◌-ℤ◌
      (ap₂ ◌+ℤ◌ (once ((chain_left f).t j) (u (psi_index J j)) (prior_mean f.file (psi_index J j)))
      (sum_cong (J - j) (λ i _. once ((chain_left f).q i j) (u (psi_index J j)) (incurred_step f.file i j))))
      (ratios_are (j + 1))

  -- A·u − b, of the loss without the struck terms
  pub residue_by_matrix : (k : ℕ) → k < 2 * last_year f.file + 1
      → residue_of k ≡ sum (2 * J + 1) (λ l. matrix (chain_left f) k l *ℤ u l) -ℤ right_hand_side (chain_left f) k
  unfolding residue_times
  residue_by_matrix k below =
      sym (residue_is_observed (chain_left f) 1 u k below)
      ∙ ap (λ b. sum (2 * J + 1) (λ l. matrix (chain_left f) k l *ℤ u l) -ℤ b) (*ℤ_idl (right_hand_side (chain_left f) k))

  -- and what judge tests
  pub residue_judged : (k : ℕ) → k < 2 * last_year f.file + 1 → residue_of k ≡ residue (figures_left f) u k
  residue_judged k below = observed_is_residue (chain_left f) u (closeness f.file) k below

-- of every open session that calls reach, and every mean inside the limits
pub reached_residues : (calls : List Call) (f : StruckFile) (μ : List ℤ) (count : ℕ) → after empty calls ≡ holds f μ count → (u : Vector)
    → ((l : ℕ) → l < 2 * last_year f.file + 1 → nat_abs (u l) ≤ 67108864) → (rest : Bytes) (k : ℕ) → k < 2 * last_year f.file + 1
    → residue_at (residue_bytes (chain_left f) u ++ rest) k ≡ residue (figures_left f) u k
reached_residues calls f μ count reached u small rest k below =
    let good = subst Good reached (reached_good calls) in
    residues_read (chain_left f) u (struck_chain f good.0).0 small rest (closeness f.file) k below
