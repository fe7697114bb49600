-- What the loop over the ratios goes by.
use Prim.Native.Nat.{ℕ, ◌+◌, ◌*◌, ◌-◌, ◌^◌, ◌≤◌, ◌<◌}
use Rattle.std.specs.Prelude.{◌≡◌, refl, ◌⊎◌, List, set}
use Rattle.std.proofs.Common.{sym, ◌∙◌, inl, inr, eq-or-lt_of_le, length-set, get_or-set_same, get_or-set_other}
use Rattle.std.proofs.Math.Path.{ap, ap₂}
use native.Mathlib.Omega.{arith}
use Rattle.integers.specs.Sum.{total}
use Rattle.integers.specs.Total.{total_zero, total_first, total_bound, total_cong}
use Rattle.definitions.specs.Layout.{parts, psi_index}
use Rattle.definitions.specs.Weight.{weight}
use Rattle.observations.specs.Arrays.{at, ratio_at}
use Rattle.observations.specs.Ratios.{ratio_from, OfVariances, WeighedFrom}

module _ (J : ℕ) where
  -- one year more
  pub ratio_from_next : (v : ℕ → ℕ) (k : ℕ) → k < J → ratio_from J v k ≡ ratio_from J v (k + 1) + (v (k + 1) + v (psi_index J k))
  unfolding ratio_from
  ratio_from_next v k below =
      ap₂ ◌+◌
      (side (λ i. v (k + 1 + i)) (λ i. v (k + 1 + 1 + i)) (λ i. ap v (paid i)))
      (side (λ i. v (psi_index J (k + i))) (λ i. v (psi_index J (k + 1 + i))) (λ i. ap (λ n. v (psi_index J n)) (incurred i)))
      ∙ ap₂ (λ a b. a + total m (λ i. v (k + 1 + 1 + i)) + (b + total m (λ i. v (psi_index J (k + 1 + i)))))
      (ap v (first (k + 1))) (ap (λ n. v (psi_index J n)) (first k))
      ∙ omega arith
    where
      -- the years after this one
      m : ℕ
      m = J - (k + 1)

      count : J - k ≡ m + 1
      count = omega arith

      side : (g h : ℕ → ℕ) → ((i : ℕ) → g (1 + i) ≡ h i) → total (J - k) g ≡ g 0 + total m h
      side g h same = ap (λ n. total n g) count ∙ total_first m g ∙ ap (λ t. g 0 + t) (total_cong m (λ i _. same i))

      paid : (i : ℕ) → k + 1 + (1 + i) ≡ k + 1 + 1 + i
      paid i = omega arith

      incurred : (i : ℕ) → k + (1 + i) ≡ k + 1 + i
      incurred i = omega arith

      first : (n : ℕ) → n + 0 ≡ n
      first n = omega arith

  -- behind the last year there is none
  pub ratio_from_last : (v : ℕ → ℕ) → ratio_from J v J ≡ 0
  unfolding ratio_from
  ratio_from_last v = ap₂ ◌+◌ (none (λ i. v (J + 1 + i))) (none (λ i. v (psi_index J (J + i))))
    where
      gone : (n : ℕ) → n - n ≡ 0
      gone n = omega arith

      none : (g : ℕ → ℕ) → total (J - J) g ≡ 0
      none g = ap (λ n. total n g) (gone J) ∙ total_zero g

  -- only the variances of its parts count
  pub ratio_from_cong : (v w : ℕ → ℕ) → ((k : ℕ) → k < parts J → v k ≡ w k) → (k : ℕ) → ratio_from J v k ≡ ratio_from J w k
  unfolding ratio_from
  ratio_from_cong v w same k = ap₂ ◌+◌
      (total_cong (J - k) (λ i below. same (k + 1 + i) (omega arith)))
      (total_cong (J - k) (λ i below. same (psi_index J (k + i)) (omega arith)))

pub ratio_from_small : {weights variances : List ℕ} {J : ℕ} → OfVariances weights variances J
    → (k : ℕ) → ratio_from J (at variances) k ≤ 30 * 2 ^ 40
unfolding ratio_from
ratio_from_small {variances = variances} {J} h k =
    omega (arith, h.few, total_bound (J - k) (2 ^ 40) paid, total_bound (J - k) (2 ^ 40) incurred)
  where
    paid : (i : ℕ) → i < J - k → at variances (k + 1 + i) ≤ 2 ^ 40
    paid i below = h.small (k + 1 + i) (omega arith)

    incurred : (i : ℕ) → i < J - k → at variances (psi_index J (k + i)) ≤ 2 ^ 40
    incurred i below = h.small (psi_index J (k + i)) (omega arith)

-- ---- year by year, from the last one down

module _ {variances : List ℕ} {last : ℕ} {before : List ℕ} where
  pub weighed_none : {weights : List ℕ} → OfVariances before weights last → WeighedFrom last variances last before before
  weighed_none h = record { long = h.long; there = λ d from below. absurd (omega arith); earlier = λ i _. refl }

  pub weighed_next : {j k w : ℕ} {weights : List ℕ} → WeighedFrom j variances last before weights → j ≡ k + 1 → k < last → last ≤ 15
      → w ≡ weight (ratio_from last (at variances) k) → WeighedFrom k variances last before (set weights (62 + k) w)
  weighed_next {j} {k} {w} {weights} h next below few e = record {
    long = length-set weights (62 + k) w ∙ h.long;
    there = λ d from to. by_place d to (eq-or-lt_of_le from);
    earlier = λ i i-below. get_or-set_other weights (62 + k) i w 0 (λ same. omega arith) ∙ h.earlier i i-below;
  }
    where
      by_place : (d : ℕ) → d < last → (k ≡ d) ⊎ (k < d) → ratio_at (set weights (62 + k) w) d ≡ weight (ratio_from last (at variances) d)
      by_place d to (inl same) =
          ap (ratio_at (set weights (62 + k) w)) (sym same)
          ∙ get_or-set_same weights (62 + k) w 0 (omega (arith, h.long))
          ∙ e
          ∙ ap (λ n. weight (ratio_from last (at variances) n)) same
      by_place d to (inr later) =
          get_or-set_other weights (62 + k) (62 + d) w 0 (λ same. omega arith) ∙ h.there d (omega (arith, next)) to
