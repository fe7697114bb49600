-- Inequalities that are not linear, by certificates: `ring` shows that the difference of the two sides is some number, and that
-- number is seen not to be negative.
--
--     excess (ring (a ∷ b ∷ []) (λ a b. RIGHT ⊟ LEFT ≐ CERTIFICATE) tt) (search nonneg)
--
-- `search nonneg` is for sums and products of squares, of `pos n` and of what a hypothesis in scope says is not negative.
use Rattle.std.specs.Prelude.{◌≡◌, [], ◌∷◌, ℕ, ◌*◌, ◌≤◌, ℤ, pos, neg_ℤ, nat_abs, ◌+ℤ◌, ◌-ℤ◌, ◌*ℤ◌, ◌≤ℤ◌}
use Rattle.std.proofs.Common.{le_refl}
use Rattle.integers.specs.Linear.{linear, zarith, nat_abs-≤}
use Rattle.integers.specs.Order.{≤ℤ_is_nonneg, pos_nonneg, +ℤ_nonneg, *ℤ_nonneg, square_nonneg}
use Rattle.integers.specs.Size.{nat_abs-*-≤, nat_abs_square, nat_abs_neg}
use Rattle.integers.specs.Solver.{ring, num, ◌⊞◌, ◌⊟◌, ◌⊠◌, ⊖◌, ◌≐◌}

pub excess : {a b s : ℤ} → b -ℤ a ≡ s → pos 0 ≤ℤ s → a ≤ℤ b
excess e h = simp linear (omega (zarith, simp linear at e))

pub ruleset nonneg = (square_nonneg, pos_nonneg, +ℤ_nonneg, *ℤ_nonneg)

-- ---- examples

means : (a b : ℤ) → (pos 2 *ℤ (a *ℤ b)) ≤ℤ (a *ℤ a +ℤ b *ℤ b)
means a b = excess (ring (a ∷ b ∷ []) (λ a b. a ⊠ a ⊞ b ⊠ b ⊟ num 2 ⊠ (a ⊠ b) ≐ (a ⊟ b) ⊠ (a ⊟ b)) tt) (search nonneg)

weighted : (c a b : ℤ) → pos 0 ≤ℤ c → (pos 2 *ℤ c *ℤ (a *ℤ b)) ≤ℤ (c *ℤ (a *ℤ a +ℤ b *ℤ b) +ℤ c)
weighted c a b h = excess
    (ring (c ∷ a ∷ b ∷ []) (λ c a b. c ⊠ (a ⊠ a ⊞ b ⊠ b) ⊞ c ⊟ num 2 ⊠ c ⊠ (a ⊠ b) ≐ c ⊠ ((a ⊟ b) ⊠ (a ⊟ b)) ⊞ c) tt)
    (search nonneg)

-- ---- the mixed term of a square: where |r| ≤ e · d, its size |2 · m · r · w| is at most d · (w² + m² · e²)

mixed : (m e d a : ℕ) (x : ℤ) → x ≤ℤ pos (e * d * a)
    → (pos 2 *ℤ pos m *ℤ x) ≤ℤ (pos d *ℤ (pos a *ℤ pos a +ℤ pos m *ℤ pos m *ℤ (pos e *ℤ pos e)))
mixed m e d a x h =
    let low : pos 0 ≤ℤ (pos (e * d * a) -ℤ x) = ≤ℤ_is_nonneg.0 h in
    excess
    (ring (pos m ∷ pos e ∷ pos d ∷ pos a ∷ x ∷ [])
    (λ m e d a x. d ⊠ (a ⊠ a ⊞ m ⊠ m ⊠ (e ⊠ e)) ⊟ num 2 ⊠ m ⊠ x ≐ d ⊠ ((a ⊟ m ⊠ e) ⊠ (a ⊟ m ⊠ e)) ⊞ num 2 ⊠ m ⊠ (e ⊠ d ⊠ a ⊟ x)) tt)
    (search nonneg)

pub mixed-≤ : (m e d : ℕ) (r w : ℤ) → nat_abs r ≤ e * d
    → (pos 2 *ℤ pos m *ℤ (r *ℤ w)) ≤ℤ (pos d *ℤ (w *ℤ w +ℤ pos m *ℤ pos m *ℤ (pos e *ℤ pos e)))
mixed-≤ m e d r w h =
    let size = (nat_abs-≤ (r *ℤ w) (e * d * nat_abs w)).0 (nat_abs-*-≤ r w h (le_refl (nat_abs w))) in
    rw (← nat_abs_square w) (mixed m e d (nat_abs w) (r *ℤ w) size.0)

pub mixed_neg-≤ : (m e d : ℕ) (r w : ℤ) → nat_abs r ≤ e * d
    → neg_ℤ (pos 2 *ℤ pos m *ℤ (r *ℤ w)) ≤ℤ (pos d *ℤ (w *ℤ w +ℤ pos m *ℤ pos m *ℤ (pos e *ℤ pos e)))
mixed_neg-≤ m e d r w h =
    rw (ring (pos m ∷ r ∷ w ∷ []) (λ m r w. ⊖ (num 2 ⊠ m ⊠ (r ⊠ w)) ≐ num 2 ⊠ m ⊠ (⊖ r ⊠ w)) tt)
    (mixed-≤ m e d (neg_ℤ r) w (rw (nat_abs_neg r) h))
