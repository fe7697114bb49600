-- What reading a field finds: the definition's value where all of its bytes are there, and else none.
use Rattle.std.specs.Prelude.{ℕ, ◌+◌, ◌≤◌, ◌<◌, ◌≡◌, refl, Bool, true, false, cond, length, leb, ℤ, Option, Some, None}
use Rattle.std.proofs.Common.{sym, ◌∙◌, arith}
use borrow.Author.Tests.{le-leb, lt-leb, leb-true, leb-false}
use Rattle.definitions.specs.Layout.{Bytes, unsigned, signed}

unfoldable pub field_at : ℕ → ℕ → Bytes → Option ℕ
field_at width at s = cond (leb (at + width) (length s)) (Some (unsigned width at s)) None

unfoldable pub byte_field_at : ℕ → Bytes → Option ℕ
byte_field_at at s = cond (leb (at + 1) (length s)) (Some (unsigned 1 at s)) None

unfoldable pub signed_field_at : ℕ → Bytes → Option ℤ
signed_field_at at s = cond (leb (at + 4) (length s)) (Some (signed at s)) None

-- ---- a value is found exactly where the field ends inside the string

module _ (width at : ℕ) (s : Bytes) where
  pub field_value : at + width ≤ length s → field_at width at s ≡ Some (unsigned width at s)
  unfolding field_at
  field_value h = rw (le-leb (at + width) (length s) h)

  pub field_end : length s < at + width → field_at width at s ≡ None
  unfolding field_at
  field_end h = rw (lt-leb (at + width) (length s) h)

  value_cases : (b : Bool) (v : ℕ) → cond b (Some (unsigned width at s)) None ≡ Some v → (b ≡ true) × (v ≡ unsigned width at s)
  value_cases true v e = (refl, cc)
  value_cases false v e = (cc, cc)

  end_cases : (b : Bool) → cond b (Some (unsigned width at s)) None ≡ None → b ≡ false
  end_cases true e = cc
  end_cases false e = refl

  -- of what a reading found
  pub field_read : {r : Option ℕ} {v : ℕ} → r ≡ field_at width at s → r ≡ Some v → v ≡ unsigned width at s
  unfolding field_at
  field_read {v} e k = (value_cases (leb (at + width) (length s)) v (sym e ∙ k)).1

  pub field_inside : {r : Option ℕ} {v : ℕ} → r ≡ field_at width at s → r ≡ Some v → at + width ≤ length s
  unfolding field_at
  field_inside {v} e k = leb-true (at + width) (length s) (value_cases (leb (at + width) (length s)) v (sym e ∙ k)).0

  pub field_outside : {r : Option ℕ} → r ≡ field_at width at s → r ≡ None → length s < at + width
  unfolding field_at
  field_outside e k = leb-false (at + width) (length s) (end_cases (leb (at + width) (length s)) (sym e ∙ k))

module _ (at : ℕ) (s : Bytes) where
  pub byte_value : at < length s → byte_field_at at s ≡ Some (unsigned 1 at s)
  unfolding byte_field_at
  byte_value h = rw (le-leb (at + 1) (length s) (omega arith))

  pub byte_end : length s ≤ at → byte_field_at at s ≡ None
  unfolding byte_field_at
  byte_end h = rw (lt-leb (at + 1) (length s) (omega arith))

  byte_value_cases : (b : Bool) (v : ℕ) → cond b (Some (unsigned 1 at s)) None ≡ Some v → v ≡ unsigned 1 at s
  byte_value_cases true v e = cc
  byte_value_cases false v e = cc

  byte_end_cases : (b : Bool) → cond b (Some (unsigned 1 at s)) None ≡ None → b ≡ false
  byte_end_cases true e = cc
  byte_end_cases false e = refl

  pub byte_read : {r : Option ℕ} {v : ℕ} → r ≡ byte_field_at at s → r ≡ Some v → v ≡ unsigned 1 at s
  unfolding byte_field_at
  byte_read {v} e k = byte_value_cases (leb (at + 1) (length s)) v (sym e ∙ k)

  pub byte_outside : {r : Option ℕ} → r ≡ byte_field_at at s → r ≡ None → length s ≤ at
  unfolding byte_field_at
  byte_outside e k = omega (arith, leb-false (at + 1) (length s) (byte_end_cases (leb (at + 1) (length s)) (sym e ∙ k)))

  pub signed_value : at + 4 ≤ length s → signed_field_at at s ≡ Some (signed at s)
  unfolding signed_field_at
  signed_value h = rw (le-leb (at + 4) (length s) h)

  pub signed_end : length s < at + 4 → signed_field_at at s ≡ None
  unfolding signed_field_at
  signed_end h = rw (lt-leb (at + 4) (length s) h)

  signed_value_cases : (b : Bool) (z : ℤ) → cond b (Some (signed at s)) None ≡ Some z → z ≡ signed at s
  signed_value_cases true z e = cc
  signed_value_cases false z e = cc

  signed_end_cases : (b : Bool) → cond b (Some (signed at s)) None ≡ None → b ≡ false
  signed_end_cases true e = cc
  signed_end_cases false e = refl

  pub signed_read : {r : Option ℤ} {z : ℤ} → r ≡ signed_field_at at s → r ≡ Some z → z ≡ signed at s
  unfolding signed_field_at
  signed_read {z} e k = signed_value_cases (leb (at + 4) (length s)) z (sym e ∙ k)

  pub signed_outside : {r : Option ℤ} → r ≡ signed_field_at at s → r ≡ None → length s < at + 4
  unfolding signed_field_at
  signed_outside e k = leb-false (at + 4) (length s) (signed_end_cases (leb (at + 4) (length s)) (sym e ∙ k))
