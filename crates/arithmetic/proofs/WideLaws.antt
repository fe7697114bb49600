-- Why product and long division of two words are right, and why nothing wraps.
use Rattle.std.specs.Prelude.{ℕ, ◌+◌, ◌*◌, ◌/◌, ◌%◌, ◌^◌, ◌≤◌, ◌<◌, ◌≡◌, [], ◌∷◌, ℤ, pos, nat_abs, ◌+ℤ◌, ◌*ℤ◌}
use Rattle.std.proofs.Common.{ap, ap₂, ◌∙◌, lt_of_mul-lt-mul_right, arith}
use Rattle.std.proofs.Math.Nat.{div-add-mod}
use Rattle.integers.specs.Floor.{floor_div, floor_rest, floor_rest_nonneg, floor_rest-<}
use Rattle.integers.specs.Linear.{linear}
use Rattle.integers.specs.Order.{nonneg_pos}
use Rattle.integers.specs.Size.{nat_abs-*, nat_abs-*-≤}
use Rattle.integers.specs.Solver.{ring, ◌⊞◌, ◌⊠◌, num, ◌≐◌}
use Rattle.arithmetic.specs.declared.wide.Wide.{Wide}
use Rattle.arithmetic.specs.declared.wide.Digit.{Digit}
use Rattle.arithmetic.specs.declared.wide.Quotient.{Quotient}
use Rattle.arithmetic.specs.Wide.{value_of, IsWide, Divides, OfWord, OfProduct, NextDigit, OfDivision}

-- ---- one word

module _ {x : ℤ} {d : ℕ} (h : OfWord x d) where
  abbrev pub q : ℤ
  q = floor_div x d

  abbrev pub left : ℤ
  left = floor_rest x h.some

  pub left_nonneg : pos (nat_abs left) ≡ left
  left_nonneg = nonneg_pos (floor_rest_nonneg x h.some)

  pub left_small : nat_abs left < d
  left_small =
      let from = floor_rest_nonneg x h.some in
      let to = floor_rest-< x h.some in
      simp linear (omega (arith, simp linear at from, simp linear at to))

  pub multiple_small : nat_abs (q *ℤ pos d) < 2 ^ 63
  multiple_small =
      let from = floor_rest_nonneg x h.some in
      let to = floor_rest-< x h.some in
      let small = h.small in
      simp linear (omega (arith, h.divisor_small, simp linear at from, simp linear at to, simp linear at small))

  pub word_split : {f : ℤ} {r : ℕ} → f ≡ q → r ≡ nat_abs left → Divides x d (record { floor = f; rest = r })
  word_split floor_is rest-is = record {
    whole = ap₂ (λ f r. f *ℤ pos d +ℤ pos r) floor_is rest-is ∙ ap (λ z. q *ℤ pos d +ℤ z) left_nonneg ∙ simp linear (omega arith);
    below = omega (arith, rest-is, left_small);
  }

-- a floor is not larger than its number
pub floor_small : {x : ℤ} {d : ℕ} {r : Quotient} → Divides x d r → (b : ℕ) → nat_abs x ≤ b * d → nat_abs r.floor ≤ b
floor_small {x} {d} {r} h b small =
    let whole = h.whole in
    let less : nat_abs (r.floor *ℤ pos d) < b * d + d = simp linear (omega (arith, h.below, simp linear at whole, simp linear at small)) in
    let product = nat_abs-* r.floor (pos d) in
    omega (arith, lt_of_mul-lt-mul_right d {m = nat_abs r.floor} {n = b + 1} (omega (arith, less, product)))

-- ---- product

module _ (a : ℕ) (b : ℤ) (a_fits : a < 2 ^ 64) (h : OfProduct b) where
  abbrev pub upper : ℤ
  upper = pos (a / 2 ^ 32) *ℤ b

  abbrev pub lower : ℤ
  lower = pos (a % 2 ^ 32) *ℤ b

  pub upper_small : nat_abs upper ≤ 2 ^ 62
  upper_small = nat_abs-*-≤ (pos (a / 2 ^ 32)) b {m = 2 ^ 32} {n = 2 ^ 30} (omega arith) h.small

  pub lower_small : nat_abs lower ≤ 2 ^ 62
  lower_small = nat_abs-*-≤ (pos (a % 2 ^ 32)) b {m = 2 ^ 32} {n = 2 ^ 30} (omega arith) h.small

  module _ {r : Quotient} (split : Divides lower (2 ^ 32) r) where
    pub high_small : nat_abs (upper +ℤ r.floor) < 2 ^ 63
    high_small =
        let u = upper_small in
        let l = lower_small in
        let whole = split.whole in
        simp linear (omega (arith, split.below, simp linear at u, simp linear at l, simp linear at whole))

    pub product_is : IsWide (pos a *ℤ b) (record { high = upper +ℤ r.floor; low = r.rest })
    product_is = record {
      value =
          ring (upper ∷ r.floor ∷ pos r.rest ∷ [])
          (λ u f l. (u ⊞ f) ⊠ num 4294967296 ⊞ l ≐ u ⊠ num 4294967296 ⊞ (f ⊠ num 4294967296 ⊞ l)) tt
          ∙ ap (λ z. upper *ℤ pos 4294967296 +ℤ z) split.whole
          ∙ ring (pos (a / 2 ^ 32) ∷ pos (a % 2 ^ 32) ∷ b ∷ []) (λ u l b. u ⊠ b ⊠ num 4294967296 ⊞ l ⊠ b ≐ (num 4294967296 ⊠ u ⊞ l) ⊠ b) tt
          ∙ ap (λ n. pos n *ℤ b) (div-add-mod a (2 ^ 32));
      low_small = split.below;
    }

-- ---- long division

pub first_small : {n : Wide} {d : ℕ} → OfDivision n d → {first : Quotient} → Divides n.high d first → nat_abs first.floor ≤ 2 ^ 29
first_small h split = floor_small split (2 ^ 29) h.floor_small

module _ (n : Wide) {d : ℕ} {first : Quotient} {second third : Digit} (split : Divides n.high d first)
    (next : NextDigit first.rest (n.low / 65536) d second) (last : NextDigit second.rest (n.low % 65536) d third) where
  abbrev floor : ℤ
  floor = first.floor *ℤ pos (2 ^ 32) +ℤ pos (second.digit * 65536 + third.digit)

  pub divided_is : Divides (value_of n) d (record { floor = floor; rest = third.rest })
  divided_is =
      let high = split.whole in
      let digits = next.whole in
      let rest = last.whole in
      record {
        whole =
            ring (first.floor ∷ pos second.digit ∷ pos third.digit ∷ pos d ∷ pos third.rest ∷ [])
            (λ f s t d r. (f ⊠ num 4294967296 ⊞ (s ⊠ num 65536 ⊞ t)) ⊠ d ⊞ r
            ≐ (f ⊠ d) ⊠ num 4294967296 ⊞ (s ⊠ d) ⊠ num 65536 ⊞ t ⊠ d ⊞ r) tt
            ∙ simp linear (omega (arith, digits, rest, simp linear at high));
        below = last.below;
      }

-- the high word is not larger than the number's 2^32nd part, and one
pub high_at_most : {z : ℤ} {w : Wide} → IsWide z w → (b : ℕ) → nat_abs z ≤ b * 2 ^ 32 → nat_abs w.high ≤ b + 1
high_at_most h b small = let value = h.value in simp linear (omega (arith, h.low_small, simp linear at value, simp linear at small))
