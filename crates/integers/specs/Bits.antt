-- A whole number in the bits of an i64: read back, and by its sign.
use Rattle.std.specs.Prelude.{ℕ, ◌^◌, ◌<◌, ◌≡◌, refl, true, false, ℤ, pos, negsuc, nat_abs}
use Rattle.std.proofs.Common.{sym, ap, ◌∙◌, arith, ltb-true, SFits, to_z, of_z, to_z-of_z}
use Rattle.std.proofs.lemmas.Bool.{false≢true}
use Rattle.std.specs.Int.Signed.{mag, lt_z}
use Rattle.std.specs.Int.{w64}
use Rattle.integers.specs.Size.{kept}

-- z as it is read after it was written
abbrev pub stored : ℤ → ℤ
stored z = to_z w64 (of_z w64 z)

-- a small number is read as it was written
pub read : (z : ℤ) → nat_abs z < 2 ^ 63 → stored z ≡ z
read z h = kept w64 refl h

-- the same of a number that was an i64 already, with what is told of it where it is read through a reference or returned by a call
pub same : (z : ℤ) → mag z < 2 ^ 63 → stored z ≡ z
same z told = to_z-of_z {w = w64} {z = z} (record { sfits = told })

-- ---- by the test `z < 0`

pub record Negative (z : ℤ) : Type 0 where
  pub below : ℕ
  pub is : z ≡ negsuc below
  pub small : below < 2 ^ 63

pub record Nonnegative (z : ℤ) : Type 0 where
  pub above : ℕ
  pub is : z ≡ pos above
  pub small : above < 2 ^ 63

negative_is : (z : ℤ) → SFits w64 z → lt_z z (pos 0) ≡ true → Negative z
negative_is (pos n) f t = absurd (omega (arith, ltb-true n 0 t))
negative_is (negsuc n) f t = record { below = n; is = refl; small = f.sfits }

nonnegative_is : (z : ℤ) → SFits w64 z → lt_z z (pos 0) ≡ false → Nonnegative z
nonnegative_is (pos n) f t = record { above = n; is = refl; small = f.sfits }
nonnegative_is (negsuc n) f t = absurd (false≢true (sym t))

pub negative : {z : ℤ} → SFits w64 z → lt_z (stored z) (pos 0) ≡ true → Negative z
negative {z} f t = negative_is z f (ap (λ y. lt_z y (pos 0)) (sym (to_z-of_z f)) ∙ t)

pub nonnegative : {z : ℤ} → SFits w64 z → lt_z (stored z) (pos 0) ≡ false → Nonnegative z
nonnegative {z} f t = nonnegative_is z f (ap (λ y. lt_z y (pos 0)) (sym (to_z-of_z f)) ∙ t)
