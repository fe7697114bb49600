-- The squarings of a logarithm, counted: those that are left, run from y and the bits so far, give what all of them give from the start.
use Prim.Native.Nat.{ℕ, ◌+◌, ◌-◌, ◌/◌, ◌^◌, ◌≤◌, ◌<◌}
use mathlib.Core.Path.{◌≡◌, sym, ap, ap₂, ◌∙◌}
use native.Mathlib.Omega.{arith}
use lib.IntN.{ℤ, pos}
use Rattle.definitions.specs.Logarithm.{logarithm, bits_of, next_bit, squarings}
use Rattle.laws.proofs.LogarithmBits.{next_bit_small, logarithm_run}
use Rattle.scales.specs.declared.Squaring.{Squaring}
use Rattle.scales.specs.Squaring.{Start, Next}
use Rattle.scales.proofs.Bits.{one_bit_more, bits_next}

-- after i squarings from s
pub record After (i : ℕ) (s t : Squaring) : Type 0 where
  pub same : bits_of (squarings - i) t.y t.bits ≡ bits_of squarings s.y s.bits
  pub small : t.y < 2 ^ 32
  pub few : t.bits < 2 ^ (6 + i)
  pub within : i ≤ squarings

module _ {i : ℕ} {s t : Squaring} (h : After i s t) where
  pub after_next : {u : Squaring} → i < squarings → Next t u → After (i + 1) s u
  after_next {u} more n = record {
    same = rw (n.y, n.bits) (sym (bits_next squarings i t.y t.bits more) ∙ h.same);
    small = n.small;
    few = rw n.bits (one_bit_more i t.bits (next_bit t.y) h.few (next_bit_small t.y));
    within = omega arith;
  }

  -- the bits, rounded to ticks
  pub after_ticks : {a : ℕ} {r : ℤ} → squarings ≤ i → Start a s → r ≡ pos ((t.bits + 1) / 2) → r ≡ pos (logarithm a)
  unfolding bits_of
  after_ticks {a} done start rounded =
      let none : squarings - i ≡ 0 = omega arith in
      let bits : t.bits ≡ bits_of squarings s.y s.bits = ap (λ n. bits_of n t.y t.bits) (sym none) ∙ h.same in
      rounded
      ∙ ap (λ n. pos ((n + 1) / 2)) (bits ∙ ap₂ (bits_of squarings) start.y start.bits)
      ∙ ap pos (sym (logarithm_run a))
