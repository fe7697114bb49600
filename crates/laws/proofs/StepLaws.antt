-- One step of a sweep: it changes one part, which stays inside the limits; the new residues are the old plus the part's column times
-- the change; and the loss does not grow.
use Rattle.std.specs.Prelude.{ℕ, ◌*◌, ◌≤◌, ◌<◌, ◌≡◌, refl, ◌≢◌, ◌⊎◌, List, [], ◌∷◌, Bool, true, false, not, cond, T, ℤ, pos, neg_ℤ, nat_abs, ◌+ℤ◌, ◌-ℤ◌, ◌*ℤ◌}
use Rattle.std.specs.Prelude.{length, set, ◌≤ℤ◌, ◌<ℤ◌}
use Rattle.std.proofs.Common.{sym, ◌∙◌, subst, inl, inr, arith}
use Rattle.std.proofs.Math.Path.{ap}
use Rattle.std.proofs.Math.Decide.{ℕ_discrete}
use Rattle.std.proofs.Math.ListN.{length-set}
use Rattle.std.proofs.Math.Seq.{get_or-set_same, get_or-set_other}
use Rattle.std.specs.Int.Signed.{≤ℤ_refl, shr_z, lt_z, lt_z_yes, lt_z_no}
use Rattle.integers.specs.Floor.{floor-≤, floor-<}
use Rattle.integers.specs.Linear.{linear, zarith}
use Rattle.integers.specs.Certificate.{excess}
use Rattle.integers.specs.Order.{*ℤ_mono, *ℤ_nonneg, neg_ℤ_anti, nonneg_pos, pos-≤, ≤ℤ_or-<ℤ, ≤ℤ_total, ≤ℤ_of-≡}
use Rattle.integers.specs.Solver.{ring, ◌⊞◌, ◌⊟◌, ◌⊠◌, ⊖◌, num, ◌≐◌}
use Rattle.integers.specs.Sum.{sum, sum_cong, sum-+}
use Rattle.integers.specs.SumRange.{sum_one}
use Rattle.definitions.specs.Words.{part}
use Rattle.definitions.specs.Layout.{parts}
use Rattle.definitions.specs.Refusals.{part_limit}
use Rattle.definitions.specs.Matrix.{Figures, entry, residue}
use Rattle.definitions.specs.Sweep.{bring_back, change, step}
use Rattle.laws.specs.StepLaws.{bottom, top}

-- ---- brought back

-- a part above the limits, below them, or inside
by_side : (z : ℤ) (P : ℤ → Type 0) → (top <ℤ z → P top) → (z <ℤ bottom → P bottom) → (bottom ≤ℤ z → z ≤ℤ top → P z) → P (bring_back z)
unfolding bring_back
by_side z P above below inside = first (lt_z top z) lt_z_yes lt_z_no
  where
    second : (t : Bool) → (T t → z <ℤ bottom) → (T (not t) → bottom ≤ℤ z) → z ≤ℤ top → P (cond t bottom z)
    second true past within high = below (past tt)
    second false past within high = inside (within tt) high

    first : (t : Bool) → (T t → top <ℤ z) → (T (not t) → z ≤ℤ top) → P (cond t top (cond (lt_z z bottom) bottom z))
    first true past within = above (past tt)
    first false past within = second (lt_z z bottom) lt_z_yes lt_z_no (within tt)

pub bring_back_inside : (z : ℤ) → nat_abs (bring_back z) ≤ part_limit
bring_back_inside z = by_side z (λ r. nat_abs r ≤ part_limit) (λ _. omega arith) (λ _. omega arith) inside
  where
    inside : bottom ≤ℤ z → z ≤ℤ top → nat_abs z ≤ part_limit
    inside low high = simp linear (omega zarith)

pub bring_back_of_inside : (z : ℤ) → nat_abs z ≤ part_limit → bring_back z ≡ z
bring_back_of_inside z inside = by_side z (λ r. r ≡ z)
    (λ above. absurd (omega (zarith, simp linear at inside, simp linear at above)))
    (λ below. absurd (omega (zarith, simp linear at inside, simp linear at below)))
    (λ _ _. refl)

-- ---- a part's change never raises the loss: A·δ² + 2·ρ·δ ≤ 0 for every δ from 0 to the floor of (A − 2ρ) / 2A

module _ (A ρ δ₀ δ : ℤ) (some : pos 1 ≤ℤ A) where
  falls_up : (pos 2 *ℤ (A *ℤ δ₀)) ≤ℤ (A -ℤ pos 2 *ℤ ρ) → pos 0 ≤ℤ δ → δ ≤ℤ δ₀ → (δ *ℤ (pos 2 *ℤ ρ +ℤ A *ℤ δ)) ≤ℤ pos 0
  falls_up floor from to = by_size (≤ℤ_or-<ℤ (pos 1) δ)
    where
      by_size : (pos 1 ≤ℤ δ) ⊎ (δ <ℤ pos 1) → (δ *ℤ (pos 2 *ℤ ρ +ℤ A *ℤ δ)) ≤ℤ pos 0
      by_size (inl positive) =
          let positive_A : pos 0 ≤ℤ A = simp linear (omega zarith) in
          let product = *ℤ_mono positive_A to in
          let least = *ℤ_mono positive_A positive in
          let down : pos 0 ≤ℤ neg_ℤ (pos 2 *ℤ ρ +ℤ A *ℤ δ) =
          simp linear (omega (zarith, simp linear at floor, simp linear at product, simp linear at least)) in
          excess (ring (δ ∷ ρ ∷ A ∷ []) (λ d r a. num 0 ⊟ d ⊠ (num 2 ⊠ r ⊞ a ⊠ d) ≐ d ⊠ ⊖ (num 2 ⊠ r ⊞ a ⊠ d)) tt) (*ℤ_nonneg from down)
      by_size (inr none) =
          let nothing : δ ≡ pos 0 = simp linear (omega zarith) in
          rw nothing (≤ℤ_of-≡ (ring (ρ ∷ A ∷ []) (λ r a. num 0 ⊠ (num 2 ⊠ r ⊞ a ⊠ num 0) ≐ num 0) tt))

-- the same below 0, turned round
falls_down : (A ρ δ₀ δ : ℤ) → pos 1 ≤ℤ A → (A -ℤ pos 2 *ℤ ρ) <ℤ (pos 2 *ℤ (A *ℤ (δ₀ +ℤ pos 1))) → δ ≤ℤ pos 0 → δ₀ ≤ℤ δ
    → (δ *ℤ (pos 2 *ℤ ρ +ℤ A *ℤ δ)) ≤ℤ pos 0
falls_down A ρ δ₀ δ some floor from to =
    let turned = ring (A ∷ δ₀ ∷ []) (λ a d. num 2 ⊠ (a ⊠ (d ⊞ num 1)) ≐ num 2 ⊠ a ⊟ num 2 ⊠ (a ⊠ ⊖ d)) tt in
    let floor_turned : (pos 2 *ℤ (A *ℤ neg_ℤ δ₀)) ≤ℤ (A -ℤ pos 2 *ℤ neg_ℤ ρ) =
    simp linear (omega (zarith, simp linear at (rw turned at floor))) in
    rw (ring (δ ∷ ρ ∷ A ∷ []) (λ d r a. d ⊠ (num 2 ⊠ r ⊞ a ⊠ d) ≐ ⊖ d ⊠ (num 2 ⊠ ⊖ r ⊞ a ⊠ ⊖ d)) tt)
    (falls_up A (neg_ℤ ρ) (neg_ℤ δ₀) (neg_ℤ δ) some floor_turned (neg_ℤ_anti from) (neg_ℤ_anti to))

-- a part v inside the limits, moved by the floor and brought back
pub moved_falls : (A ρ v : ℤ) → pos 1 ≤ℤ A → nat_abs v ≤ part_limit
    → let δ : ℤ = bring_back (v +ℤ shr_z (A -ℤ pos 2 *ℤ ρ) (2 * nat_abs A)) -ℤ v in (δ *ℤ (pos 2 *ℤ ρ +ℤ A *ℤ δ)) ≤ℤ pos 0
moved_falls A ρ v some inside =
    by_side (v +ℤ δ₀) (λ r. ((r -ℤ v) *ℤ (pos 2 *ℤ ρ +ℤ A *ℤ (r -ℤ v))) ≤ℤ pos 0)
    (λ past. falls_up A ρ δ₀ (top -ℤ v) some low
    (simp linear (omega (zarith, simp linear at inside))) (simp linear (omega (zarith, simp linear at past))))
    (λ past. falls_down A ρ δ₀ (bottom -ℤ v) some high
    (simp linear (omega (zarith, simp linear at inside))) (simp linear (omega (zarith, simp linear at past))))
    (λ _ _. rw (ring (v ∷ δ₀ ∷ []) (λ v d. v ⊞ d ⊟ v ≐ d) tt) (either (≤ℤ_total (pos 0) δ₀)))
  where
    δ₀ : ℤ
    δ₀ = shr_z (A -ℤ pos 2 *ℤ ρ) (2 * nat_abs A)

    whole : pos (nat_abs A) ≡ A
    whole = nonneg_pos (simp linear (omega (zarith, simp linear at some)))

    positive : 0 < 2 * nat_abs A
    positive = omega (arith, pos-≤.1 (subst (λ z. pos 1 ≤ℤ z) (sym whole) some))

    twice : (z : ℤ) → pos (2 * nat_abs A) *ℤ z ≡ pos 2 *ℤ (A *ℤ z)
    twice z = ring (pos (nat_abs A) ∷ z ∷ []) (λ a z. num 2 ⊠ a ⊠ z ≐ num 2 ⊠ (a ⊠ z)) tt ∙ ap (λ a. pos 2 *ℤ (a *ℤ z)) whole

    low : (pos 2 *ℤ (A *ℤ δ₀)) ≤ℤ (A -ℤ pos 2 *ℤ ρ)
    low = rw (twice δ₀) at (floor-≤ (A -ℤ pos 2 *ℤ ρ) positive)

    high : (A -ℤ pos 2 *ℤ ρ) <ℤ (pos 2 *ℤ (A *ℤ (δ₀ +ℤ pos 1)))
    high = rw (twice (δ₀ +ℤ pos 1)) at (floor-< (A -ℤ pos 2 *ℤ ρ) positive)

    either : (pos 0 ≤ℤ δ₀) ⊎ (δ₀ ≤ℤ pos 0) → (δ₀ *ℤ (pos 2 *ℤ ρ +ℤ A *ℤ δ₀)) ≤ℤ pos 0
    either (inl up) = falls_up A ρ δ₀ δ₀ some low up (≤ℤ_refl δ₀)
    either (inr down) = falls_down A ρ δ₀ δ₀ some high down (≤ℤ_refl δ₀)

-- ---- the step of part k

-- a sum of products where one factor is set anew
pub sum_set : (n : ℕ) (f : ℕ → ℤ) (μ : List ℤ) (k : ℕ) → k < n → k < length μ → (z : ℤ)
    → sum n (λ l. f l *ℤ part (set μ k z) l) ≡ sum n (λ l. f l *ℤ part μ l) +ℤ f k *ℤ (z -ℤ part μ k)
sum_set n f μ k below there z =
    sum_cong n (λ l _. ring (f l ∷ part (set μ k z) l ∷ part μ l ∷ []) (λ a v u. a ⊠ v ≐ a ⊠ u ⊞ a ⊠ (v ⊟ u)) tt)
    ∙ sum-+ n (λ l. f l *ℤ part μ l) (λ l. f l *ℤ (part (set μ k z) l -ℤ part μ l))
    ∙ ap (λ s. sum n (λ l. f l *ℤ part μ l) +ℤ s)
    (sum_one n k below elsewhere ∙ ap (λ v. f k *ℤ (v -ℤ part μ k)) (get_or-set_same μ k z (pos 0) there))
  where
    elsewhere : (l : ℕ) → l < n → l ≢ k → f l *ℤ (part (set μ k z) l -ℤ part μ l) ≡ pos 0
    elsewhere l _ apart =
        ap (λ v. f l *ℤ (v -ℤ part μ l)) (get_or-set_other μ k l z (pos 0) apart)
        ∙ ring (f l ∷ part μ l ∷ []) (λ a u. a ⊠ (u ⊟ u) ≐ num 0) tt

module _ (F : Figures) (μ : List ℤ) (k : ℕ) (below : k < parts F.last) (there : k < length μ) where
  abbrev moved : ℤ
  moved = bring_back (part μ k +ℤ change F μ k)

  -- what the step adds to the part
  abbrev pub added : ℤ
  added = moved -ℤ part μ k

  pub step_at_lem : part (step F k μ) k ≡ moved
  unfolding step
  step_at_lem = get_or-set_same μ k moved (pos 0) there

  pub step_elsewhere : (l : ℕ) → l ≢ k → part (step F k μ) l ≡ part μ l
  unfolding step
  step_elsewhere l apart = get_or-set_other μ k l moved (pos 0) apart

  pub step_length : length (step F k μ) ≡ length μ
  unfolding step
  step_length = length-set μ k moved

  pub step_inside : ((l : ℕ) → nat_abs (part μ l) ≤ part_limit) → (l : ℕ) → nat_abs (part (step F k μ) l) ≤ part_limit
  step_inside inside l = by_index (ℕ_discrete l k)
    where
      by_index : Dec (l ≡ k) → nat_abs (part (step F k μ) l) ≤ part_limit
      by_index (yes same) = rw (same, step_at_lem) (bring_back_inside (part μ k +ℤ change F μ k))
      by_index (no apart) = rw (step_elsewhere l apart) (inside l)

  -- the residues follow: the old plus the column times what is added
  pub step_residues : (i : ℕ) → residue F (part (step F k μ)) i ≡ residue F (part μ) i +ℤ entry F i k *ℤ added
  unfolding residue step
  step_residues i =
      ap (λ s. s -ℤ part F.right_hand_side i) (sum_set (parts F.last) (entry F i) μ k below there moved)
      ∙ ring (sum (parts F.last) (λ l. entry F i l *ℤ part μ l) ∷ (entry F i k *ℤ added) ∷ part F.right_hand_side i ∷ [])
      (λ s a b. s ⊞ a ⊟ b ≐ s ⊟ b ⊞ a) tt
