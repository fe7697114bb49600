-- The order of ℤ: a linear order that sums keep, and products by what is not negative. `≤ℤ_refl`, `<ℤ-≤ℤ_trans`, `<ℤ_irrefl` and
-- `clash_ℤ` are in `lib.Signed`. What is linear needs no law: see `Linear`.
use Rattle.std.specs.Prelude.{◌≡◌, refl, ◌↔◌, ◌≢◌, ◌⊎◌, Bool, true, false, not, [], ◌∷◌, ℕ, suc, ◌*◌, ◌≤◌, ◌<◌, T, ℤ, pos, negsuc, neg_ℤ, nat_abs, ◌+ℤ◌, ◌-ℤ◌}
use Rattle.std.specs.Prelude.{◌*ℤ◌, ◌≤ℤ◌, ◌<ℤ◌}
use Rattle.std.proofs.Common.{sym, ap, subst, inl, inr, ⊎_elim, zero-le, suc-le-suc, mul-pos, arith}
use Rattle.std.specs.Int.Signed.{lt_z, lt_z_yes, lt_z_no, yes_non_neg, pos-nat_abs}
use Rattle.integers.specs.Linear.{linear, zarith}
use Rattle.integers.specs.Solver.{ring, ◌⊟◌, ◌⊠◌, ◌≐◌}

-- ---- a linear order

pub ≤ℤ_trans : {a b c : ℤ} → a ≤ℤ b → b ≤ℤ c → a ≤ℤ c
≤ℤ_trans h k = omega zarith

pub ≤ℤ_of-≡ : {a b : ℤ} → a ≡ b → a ≤ℤ b
≤ℤ_of-≡ e = omega zarith

pub ≤ℤ_of-<ℤ : {a b : ℤ} → a <ℤ b → a ≤ℤ b
≤ℤ_of-<ℤ h = omega zarith

pub ≤ℤ_or-<ℤ : (a b : ℤ) → (a ≤ℤ b) ⊎ (b <ℤ a)
≤ℤ_or-<ℤ a b = go (lt_z b a) refl
  where
    go : (t : Bool) → lt_z b a ≡ t → (a ≤ℤ b) ⊎ (b <ℤ a)
    go true e = inr (lt_z_yes (subst T (sym e) tt))
    go false e = inl (lt_z_no (subst (λ t. T (not t)) (sym e) tt))

pub ≤ℤ_total : (a b : ℤ) → (a ≤ℤ b) ⊎ (b ≤ℤ a)
≤ℤ_total a b = ⊎_elim inl (λ h. inr (≤ℤ_of-<ℤ h)) (≤ℤ_or-<ℤ a b)

-- ---- beside the naturals

pub pos-≤ : {m n : ℕ} → (m ≤ n) ↔ (pos m ≤ℤ pos n)
pos-≤ = simp linear (omega arith)

pub pos-< : {m n : ℕ} → (m < n) ↔ (pos m <ℤ pos n)
pos-< = simp linear (omega arith)

pub pos_nonneg : (n : ℕ) → pos 0 ≤ℤ pos n
pos_nonneg n = omega zarith

-- what is not negative is a natural
pub nonneg_pos : {z : ℤ} → pos 0 ≤ℤ z → pos (nat_abs z) ≡ z
nonneg_pos {z} h = pos-nat_abs z (yes_non_neg h)

-- ---- sums

pub ≤ℤ_is_nonneg : {a b : ℤ} → (a ≤ℤ b) ↔ (pos 0 ≤ℤ (b -ℤ a))
≤ℤ_is_nonneg {a} {b} = simp linear (omega arith)

pub +ℤ_mono : {a b c d : ℤ} → a ≤ℤ b → c ≤ℤ d → (a +ℤ c) ≤ℤ (b +ℤ d)
+ℤ_mono h k = simp linear (omega zarith)

pub neg_ℤ_anti : {a b : ℤ} → a ≤ℤ b → neg_ℤ b ≤ℤ neg_ℤ a
neg_ℤ_anti h = simp linear (omega zarith)

pub +ℤ_nonneg : {a b : ℤ} → pos 0 ≤ℤ a → pos 0 ≤ℤ b → pos 0 ≤ℤ (a +ℤ b)
+ℤ_nonneg h k = simp linear (omega zarith)

-- ---- products

pub *ℤ_nonneg : {a b : ℤ} → pos 0 ≤ℤ a → pos 0 ≤ℤ b → pos 0 ≤ℤ (a *ℤ b)
*ℤ_nonneg {a = pos m} {b = pos n} h k = pos_nonneg (m * n)
*ℤ_nonneg {a = pos m} {b = negsuc n} h k = absurd k.le
*ℤ_nonneg {a = negsuc m} h k = absurd h.le

pub *ℤ_positive : {a b : ℤ} → pos 0 <ℤ a → pos 0 <ℤ b → pos 0 <ℤ (a *ℤ b)
*ℤ_positive {a = pos m} {b = pos n} h k = pos-<.0 (mul-pos (pos-<.1 h) (pos-<.1 k))
*ℤ_positive {a = pos m} {b = negsuc n} h k = absurd k.lt
*ℤ_positive {a = negsuc m} h k = absurd h.lt

pub square_nonneg : (a : ℤ) → pos 0 ≤ℤ (a *ℤ a)
square_nonneg (pos n) = pos_nonneg (n * n)
square_nonneg (negsuc n) = pos_nonneg (suc n * suc n)

pub square_positive : {a : ℤ} → a ≢ pos 0 → pos 0 <ℤ (a *ℤ a)
square_positive {a = pos n} h = pos-<.0 (mul-pos positive positive)
  where
    positive : 0 < n
    positive = let ne : n ≢ 0 = λ e. h (ap pos e) in omega arith
square_positive {a = negsuc n} h = pos-<.0 (mul-pos (suc-le-suc zero-le) (suc-le-suc zero-le))

-- by a factor that is not negative
pub *ℤ_mono : {a b c : ℤ} → pos 0 ≤ℤ c → a ≤ℤ b → (c *ℤ a) ≤ℤ (c *ℤ b)
*ℤ_mono {a} {b} {c} h k =
    let apart = ring (a ∷ b ∷ c ∷ []) (λ a b c. c ⊠ (b ⊟ a) ≐ c ⊠ b ⊟ c ⊠ a) tt in
    ≤ℤ_is_nonneg.1 (rw (← apart) (*ℤ_nonneg h (≤ℤ_is_nonneg.0 k)))
