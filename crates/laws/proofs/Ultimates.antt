-- The central ultimate: the three numbers that answer it are those of its numerator and no others, for every accepted file; its divisor is
-- the variance that the weight g of the year's ratio is made of; and only latest amounts, variances and parts that exist count.
use Rattle.std.specs.Prelude.{ℕ, ◌+◌, ◌-◌, ◌≤◌, ◌<◌, ◌≡◌, ℤ, pos, nat_abs, ◌-ℤ◌, ◌*ℤ◌}
use Rattle.std.proofs.Math.Path.{refl, ap, ap₂}
use Rattle.std.proofs.Common.{sym, ◌∙◌, arith}
use Rattle.std.proofs.Math.IntN.{◌+ℤ◌, *ℤ_comm}
use Rattle.integers.specs.Floor.{floor_div, floor_rest, floor_rest_nonneg, floor_rest-<, floor_unique}
use Rattle.integers.specs.Linear.{linear}
use Rattle.integers.specs.Order.{nonneg_pos}
use Rattle.integers.specs.Sum.{total, sum_cong}
use Rattle.integers.specs.Total.{total_cong}
use Rattle.definitions.specs.Layout.{Bytes, last_year, parts, psi_index}
use Rattle.definitions.specs.Loss.{Vector}
use Rattle.definitions.specs.Observations.{σ², τ², ratio_variance}
use Rattle.definitions.specs.Ultimate.{Latest, latest_of, Divided, paid_variance, incurred_variance, paid_ultimate, incurred_ultimate}
use Rattle.definitions.specs.Ultimate.{numerator, both_variances, ultimate_of}
use Rattle.laws.specs.Accepted.{AcceptedFile}
use Rattle.laws.proofs.FileWeights.{ratio_variance_least}
use Rattle.laws.specs.Ultimates.{SameLatest, of, UltimateDivided, DivisorIs}

-- ---- rounded down, with a remainder

pub floor_divided : (n : ℤ) {d : ℕ} (some : 0 < d) → Divided n (of (floor_div n d) (nat_abs (floor_rest n some)) d)
floor_divided n {d} some =
    let from = floor_rest_nonneg n some in
    let to = floor_rest-< n some in
    record {
      whole = ap (λ z. floor_div n d *ℤ pos d +ℤ z) (nonneg_pos from) ∙ simp linear (omega arith);
      below = simp linear (omega (arith, simp linear at from, simp linear at to));
    }

-- and no others are so
pub divided_unique : {n q : ℤ} {r d : ℕ} → Divided n (of q r d) → of q r d ≡ of (floor_div n d) (nat_abs (n -ℤ floor_div n d *ℤ pos d)) d
divided_unique {n} {q} {r} {d} h =
    let turned = *ℤ_comm (pos d) q in
    let whole = h.whole in
    let floor : floor_div n d ≡ q =
    floor_unique n q (omega (arith, h.below))
    (simp linear (omega (arith, simp linear at whole, simp linear at turned)))
    (simp linear (omega (arith, h.below, simp linear at whole, simp linear at turned))) in
    let rest : n -ℤ q *ℤ pos d ≡ pos r = simp linear (omega (arith, simp linear at whole)) in
    sym (ap (λ p. of p (nat_abs (n -ℤ p *ℤ pos d)) d) floor ∙ ap (λ z. of q (nat_abs z) d) rest)

-- ---- the central ultimate

module _ (J : ℕ) (a : Latest) (i : ℕ) (u : Vector) where
  pub ultimate_divided : UltimateDivided J a i u
  unfolding ultimate_of
  ultimate_divided some = floor_divided (numerator J a i u) some

  pub ultimate_divisor : (ultimate_of J a i u).divisor ≡ both_variances J a i
  unfolding ultimate_of
  ultimate_divisor = refl

  pub ultimate_unique : {q : ℤ} {r : ℕ} → Divided (numerator J a i u) (of q r (both_variances J a i))
      → of q r (both_variances J a i) ≡ ultimate_of J a i u
  unfolding ultimate_of
  ultimate_unique h = divided_unique h

pub same_latest : {J : ℕ} {a : Latest} → SameLatest J a a
same_latest = record { log_paid = λ i _. refl; log_incurred = λ i _. refl; variance_Φ = λ m _. refl; variance_Ψ = λ n _. refl }

module _ {J : ℕ} {a b : Latest} (same : SameLatest J a b) {i : ℕ} (there : i ≤ J) {u v : Vector}
    (parts_same : (k : ℕ) → k < parts J → u k ≡ v k) where
  same_paid : paid_variance J a i ≡ paid_variance J b i
  unfolding paid_variance
  same_paid = total_cong i (λ m below. same.variance_Φ (J - i + 1 + m) (omega arith))

  same_incurred : incurred_variance J a i ≡ incurred_variance J b i
  unfolding incurred_variance
  same_incurred = total_cong i (λ n below. same.variance_Ψ (J - i + n) (omega arith))

  same_paid_side : paid_ultimate J a i u ≡ paid_ultimate J b i v
  unfolding paid_ultimate
  same_paid_side = ap₂ ◌+ℤ◌ (same.log_paid i there) (sum_cong i (λ m below. parts_same (J - i + 1 + m) (omega arith)))

  same_incurred_side : incurred_ultimate J a i u ≡ incurred_ultimate J b i v
  unfolding incurred_ultimate
  same_incurred_side = ap₂ ◌+ℤ◌ (same.log_incurred i there) (sum_cong i (λ n below. parts_same (psi_index J (J - i + n)) (omega arith)))

  pub ultimate_cong : ultimate_of J a i u ≡ ultimate_of J b i v
  unfolding ultimate_of
  ultimate_cong = rw (same_paid, same_incurred, same_paid_side, same_incurred_side) refl

-- ---- of an accepted file

module _ (f : Bytes) (h : AcceptedFile f) {i : ℕ} (from : 1 ≤ i) (to : i ≤ last_year f) where
  pub divisor_is : DivisorIs f i
  unfolding paid_variance incurred_variance ratio_variance
  divisor_is =
      ap (λ n. total n (λ m. σ² f (last_year f - i + 1 + m)) + total n (λ m. τ² f (last_year f - i + m))) (omega arith)

  pub file_divided : (u : Vector) → Divided (numerator (last_year f) (latest_of f) i u) (ultimate_of (last_year f) (latest_of f) i u)
  file_divided u =
      ultimate_divided (last_year f) (latest_of f) i u (omega (arith, divisor_is, ratio_variance_least f h (last_year f - i) (omega arith)))
