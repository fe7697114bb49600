-- A whole mean within half a tick of a vector of zero residue has small residues: twice a residue is at most the sizes of its row,
-- and those are at most 241 own weights.
use Rattle.std.specs.Prelude.{ℕ, ◌+◌, ◌*◌, ◌≤◌, ◌<◌, ◌≡◌, [], ◌∷◌, ℤ, neg_ℤ, nat_abs, ◌-ℤ◌, ◌*ℤ◌}
use Rattle.std.proofs.Math.Path.{ap}
use Rattle.std.proofs.Common.{◌∙◌, mul-le-mul, mul-le-mul_left, mul-le-mul_right, arith}
use Rattle.std.proofs.Math.Nat.{le_of_mul-le-mul_left}
use Rattle.std.proofs.Math.IntN.{pos}
use Rattle.integers.specs.Size.{nat_abs-*, nat_abs_neg}
use Rattle.integers.specs.Solver.{ring, ◌⊟◌, ◌⊠◌, ⊖◌, num, ◌≐◌}
use Rattle.integers.specs.Sum.{sum, sum_cong, sum_scale, sum--}
use Rattle.integers.specs.Total.{total_mono, total_scale_right, sizes, sum_size}
use Rattle.definitions.specs.Layout.{parts}
use Rattle.definitions.specs.Loss.{Vector}
use Rattle.definitions.specs.Observations.{Chain}
use Rattle.definitions.specs.Matrix.{own, matrix, right_hand_side, residue_times}
use Rattle.laws.proofs.Sizes.{row_size}
use Rattle.laws.proofs.Chains.{Owned}

module _ (c : Chain) (m : ℕ) (u μ : Vector) (k : ℕ) where
  abbrev n : ℕ
  n = parts c.last

  -- row k of the matrix, and the mean's residue
  abbrev A : ℕ → ℤ
  A = matrix c k

  abbrev r : ℤ
  r = residue_times c 1 μ k

  -- what the two are apart
  abbrev w : Vector
  w l = u l -ℤ pos m *ℤ μ l

  -- m times the mean's residue is the row at what the two are apart
  residue_at_distance : residue_times c m u k ≡ pos 0 → sum n (λ l. A l *ℤ w l) ≡ neg_ℤ (pos m *ℤ r)
  unfolding residue_times
  residue_at_distance none =
      sum_cong n (λ l _. ring (A l ∷ u l ∷ pos m ∷ μ l ∷ []) (λ a u m v. a ⊠ (u ⊟ m ⊠ v) ≐ a ⊠ u ⊟ m ⊠ (a ⊠ v)) tt)
      ∙ sum-- n (λ l. A l *ℤ u l) (λ l. pos m *ℤ (A l *ℤ μ l))
      ∙ ap (λ z. sum n (λ l. A l *ℤ u l) -ℤ z) (sum_scale n (pos m) (λ l. A l *ℤ μ l))
      ∙ ring (sum n (λ l. A l *ℤ u l) ∷ pos m ∷ sum n (λ l. A l *ℤ μ l) ∷ right_hand_side c k ∷ [])
      (λ s m t b. s ⊟ m ⊠ t ≐ (s ⊟ m ⊠ b) ⊟ m ⊠ (t ⊟ num 1 ⊠ b)) tt
      ∙ ap (λ z. z -ℤ pos m *ℤ r) none
      ∙ ring (pos m ∷ r ∷ []) (λ m r. num 0 ⊟ m ⊠ r ≐ ⊖ (m ⊠ r)) tt

  pub residue_of_rounding : 1 ≤ m → residue_times c m u k ≡ pos 0 → ((l : ℕ) → l < n → 2 * nat_abs (w l) ≤ m)
      → 2 * nat_abs r ≤ sizes n A
  residue_of_rounding some none half =
      let twice = total_scale_right n 2 (λ l. nat_abs (A l *ℤ w l)) in
      let times = total_scale_right n m (λ l. nat_abs (A l)) in
      le_of_mul-le-mul_left {k = m} (omega (arith, sum_size n (λ l. A l *ℤ w l), size, total_mono n product)) some
    where
      product : (l : ℕ) → l < n → nat_abs (A l *ℤ w l) * 2 ≤ nat_abs (A l) * m
      product l below = omega (arith, nat_abs-* (A l) (w l), mul-le-mul_left (nat_abs (A l)) (half l below))

      size : nat_abs (sum n (λ l. A l *ℤ w l)) ≡ m * nat_abs r
      size = ap nat_abs (residue_at_distance none) ∙ nat_abs_neg (pos m *ℤ r) ∙ nat_abs-* (pos m) r

-- with at most 15 years, and e at least 121
pub rounding_passes : (c : Chain) → Owned c → c.last ≤ 15 → (e : ℕ) → 121 ≤ e → (m : ℕ) (u μ : Vector) → 1 ≤ m
    → ((k : ℕ) → k < parts c.last → residue_times c m u k ≡ pos 0)
    → ((k : ℕ) → k < parts c.last → 2 * nat_abs (u k -ℤ pos m *ℤ μ k) ≤ m)
    → (k : ℕ) → k < parts c.last → nat_abs (residue_times c 1 μ k) ≤ e * own c k
rounding_passes c h years e enough m u μ some none half k below =
    let D : ℕ = own c k in
    let squares : c.last * (c.last + 1) ≤ 15 * 16 = mul-le-mul years (next years) in
    let rounded = residue_of_rounding c m u μ k some (none k below) half in
    let row = row_size c k D below (h.shares k below) in
    omega (arith, mul-le-mul_right D squares, mul-le-mul_right D enough)
  where
    next : c.last ≤ 15 → c.last + 1 ≤ 16
    next h = omega arith
