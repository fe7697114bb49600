-- Division of a whole number by a positive natural, rounded down: d · q ≤ x < d · (q + 1), and no other q is so.
use Rattle.std.specs.Prelude.{ℕ, ◌*◌, ◌/◌, ◌<◌, ◌≡◌, ◌⊎◌, ℤ, pos, negsuc, ◌+ℤ◌, ◌-ℤ◌, ◌*ℤ◌, ◌≤ℤ◌, ◌<ℤ◌}
use Rattle.std.proofs.Common.{inl, inr, mod-lt, arith}
use Rattle.std.proofs.Math.Nat.{div-add-mod}
use Rattle.std.proofs.Math.IntN.{*ℤ_comm}
use Rattle.std.specs.Int.Signed.{shr_z}
use Rattle.integers.specs.Linear.{linear, zarith}
use Rattle.integers.specs.Order.{*ℤ_mono, pos_nonneg, ≤ℤ_or-<ℤ}

abbrev pub floor_div : ℤ → ℕ → ℤ
floor_div x d = shr_z x d

pub floor-≤ : (x : ℤ) {d : ℕ} → 0 < d → (pos d *ℤ floor_div x d) ≤ℤ x
floor-≤ (pos a) {d} h = simp linear (omega (arith, div-add-mod a d, mod-lt a h))
floor-≤ (negsuc a) {d} h = simp linear (omega (arith, div-add-mod a d, mod-lt a h))

pub floor-< : (x : ℤ) {d : ℕ} → 0 < d → x <ℤ (pos d *ℤ (floor_div x d +ℤ pos 1))
floor-< (pos a) {d} h = simp linear (omega (arith, div-add-mod a d, mod-lt a h))
floor-< (negsuc a) {d} h = simp linear (omega (arith, div-add-mod a d, mod-lt a h))

-- what is left of x once d times its floor is taken away: from 0 to d − 1
module _ (x : ℤ) {d : ℕ} (some : 0 < d) where
  abbrev pub floor_rest : ℤ
  floor_rest = x -ℤ floor_div x d *ℤ pos d

  pub floor_rest_nonneg : pos 0 ≤ℤ floor_rest
  floor_rest_nonneg =
      let low = floor-≤ x some in
      let turned = *ℤ_comm (pos d) (floor_div x d) in
      simp linear (omega (arith, simp linear at low, simp linear at turned))

  pub floor_rest-< : floor_rest <ℤ pos d
  floor_rest-< =
      let high = floor-< x some in
      let turned = *ℤ_comm (pos d) (floor_div x d) in
      simp linear (omega (arith, simp linear at high, simp linear at turned))

-- d · p is below d · (q + 1) only where p is at most q
quotients : (x p q : ℤ) (d : ℕ) → (pos d *ℤ p) ≤ℤ x → x <ℤ (pos d *ℤ (q +ℤ pos 1)) → p ≤ℤ q
quotients x p q d low high = by_order (≤ℤ_or-<ℤ p q)
  where
    by_order : (p ≤ℤ q) ⊎ (q <ℤ p) → p ≤ℤ q
    by_order (inl h) = h
    by_order (inr past) =
        let next : (q +ℤ pos 1) ≤ℤ p = simp linear (omega zarith) in
        let more = *ℤ_mono (pos_nonneg d) next in
        absurd (omega (arith, simp linear at low, simp linear at high, simp linear at more))

pub floor_unique : (x q : ℤ) {d : ℕ} → 0 < d → (pos d *ℤ q) ≤ℤ x → x <ℤ (pos d *ℤ (q +ℤ pos 1)) → floor_div x d ≡ q
floor_unique x q {d} some low high =
    let up : floor_div x d ≤ℤ q = quotients x (floor_div x d) q d (floor-≤ x some) high in
    let down : q ≤ℤ floor_div x d = quotients x q (floor_div x d) d low (floor-< x some) in
    omega zarith

-- d − 2r over 2d, rounded down: half of d may be rounded down first, so that r need not be doubled
pub floor_half : (d : ℕ) (r : ℤ) → 0 < d → floor_div (pos d -ℤ pos 2 *ℤ r) (2 * d) ≡ floor_div (pos (d / 2) -ℤ r) d
floor_half d r some =
    let q : ℤ = floor_div (pos (d / 2) -ℤ r) d in
    let low = floor-≤ (pos (d / 2) -ℤ r) some in
    let high = floor-< (pos (d / 2) -ℤ r) some in
    floor_unique (pos d -ℤ pos 2 *ℤ r) q (omega arith)
    (simp linear (omega (arith, simp linear at low)))
    (simp linear (omega (arith, simp linear at high)))
