-- What the matrix is filled by: rank and sign of a part from its index, runs of cells one behind another, rows.
use Rattle.std.specs.Prelude.{ℕ, ◌+◌, ◌*◌, ◌-◌, ◌^◌, ◌≤◌, ◌<◌, min, ◌≡◌, refl, ◌≢◌, ◌⊎◌, List, [], ◌∷◌, Bool, true, false, leb, eqb, ℤ, pos, nat_abs, ◌+ℤ◌}
use Rattle.std.specs.Prelude.{◌*ℤ◌, length, set}
use Rattle.std.proofs.Math.Path.{sym, ap}
use Rattle.std.proofs.Common.{ap₂, subst, ◌∙◌, inl, inr, eq-or-lt_of_le, zero-add, add_comm, arith, leb-true, leb-false, eqb-true, length-set, get_or-set_same}
use Rattle.std.proofs.Common.{get_or-set_other}
use Rattle.std.proofs.lemmas.Bool.{eqb-false}
use Rattle.std.proofs.Math.IntN.{+ℤ_idl}
use Rattle.integers.specs.Ring.{*ℤ_idl}
use Rattle.integers.specs.Size.{nat_abs_neg}
use Rattle.integers.specs.SumRange.{only_same, only_apart}
use Rattle.integers.specs.Solver.{ring, ◌⊠◌, ⊖◌, num, ◌≐◌}
use Rattle.definitions.specs.Words.{part}
use Rattle.definitions.specs.Layout.{parts}
use Rattle.definitions.specs.Matrix.{Part, Φ, Ψ, part_by_index}
use Rattle.laws.specs.Ranks.{rank_of, sign_of}
use Rattle.laws.proofs.Ranks.{rank_below, part_by_index_phi, part_psi}
use Rattle.observations.specs.Arrays.{at}
use Rattle.figures.specs.Entries.{share_of, entry_of, Stretch, Turned, run_of, of_kind, shared_by, RowOf, RowsTo}

-- ---- the rank of a part

pub rank_phi : (J k : ℕ) → k ≤ J → rank_of (part_by_index J k) ≡ k
rank_phi J k h = ap rank_of (part_by_index_phi J k h)

pub rank_psi : (J k : ℕ) → J < k → rank_of (part_by_index J k) ≡ k - J
rank_psi J k h = ap rank_of (part_psi J k h) ∙ back h
  where
    back : J < k → k - (J + 1) + 1 ≡ k - J
    back h = omega arith

-- what two parts share has one size with either sign
pub share_size : (a b : Part) (z : ℤ) → nat_abs (sign_of a *ℤ sign_of b *ℤ z) ≡ nat_abs z
share_size (Φ i) (Φ j) z = ap nat_abs (*ℤ_idl z)
share_size (Ψ i) (Ψ j) z = ap nat_abs (*ℤ_idl z)
share_size (Φ i) (Ψ j) z = ap nat_abs (ring (z ∷ []) (λ z. num 1 ⊠ ⊖ num 1 ⊠ z ≐ ⊖ z) tt) ∙ nat_abs_neg z
share_size (Ψ i) (Φ j) z = ap nat_abs (ring (z ∷ []) (λ z. ⊖ num 1 ⊠ num 1 ⊠ z ≐ ⊖ z) tt) ∙ nat_abs_neg z

-- the sums of g as they are for parts of one kind, and turned for a Φ and a Ψ
module _ {shares turned : List ℤ} {J : ℕ} (t : Turned shares J turned) where
  pub turned_small : ((n : ℕ) → n ≤ J → nat_abs (part shares n) < 2 ^ 40) → (n : ℕ) → n ≤ J → nat_abs (part turned n) < 2 ^ 40
  turned_small small n h = subst (λ z. z < 2 ^ 40) (sym (ap nat_abs (t.turns n h) ∙ nat_abs_neg (part shares n))) (small n h)

  pub by_kinds : (a b : Part) (n : ℕ) → n ≤ J
      → part (of_kind (of_kind shares turned a) (of_kind turned shares a) b) n ≡ sign_of a *ℤ sign_of b *ℤ part shares n
  by_kinds (Φ i) (Φ j) n h = sym (*ℤ_idl (part shares n))
  by_kinds (Ψ i) (Ψ j) n h = sym (*ℤ_idl (part shares n))
  by_kinds (Φ i) (Ψ j) n h = t.turns n h ∙ ring (part shares n ∷ []) (λ z. ⊖ z ≐ num 1 ⊠ ⊖ num 1 ⊠ z) tt
  by_kinds (Ψ i) (Φ j) n h = t.turns n h ∙ ring (part shares n ∷ []) (λ z. ⊖ z ≐ ⊖ num 1 ⊠ num 1 ⊠ z) tt

  -- the row of a part of this kind
  abbrev row_of : Part → ℕ → ℕ → ℤ
  row_of a = shared_by (of_kind shares turned a) (of_kind turned shares a) J

  by_row : (k : ℕ) → k < parts J → (l : ℕ) → row_of (part_by_index J k) k l ≡ share_of shares J k l
  unfolding shared_by
  by_row k h l =
      let a : Part = part_by_index J k in
      let b : Part = part_by_index J l in
      by_kinds a b (min (rank_of a) (rank_of b)) (omega (arith, rank_below J k h))

  pub phi_row : (k : ℕ) → k < parts J → k ≤ J → (l : ℕ) → shared_by shares turned J k l ≡ share_of shares J k l
  phi_row k h phi l = ap (λ a. row_of a k l) (sym (part_by_index_phi J k phi)) ∙ by_row k h l

  pub psi_row : (k : ℕ) → k < parts J → J < k → (l : ℕ) → shared_by turned shares J k l ≡ share_of shares J k l
  psi_row k h psi l = ap (λ a. row_of a k l) (sym (part_psi J k psi)) ∙ by_row k h l

-- a row's two runs: over the Φ, whose ranks start at 0, and over the Ψ, whose ranks start at 1
module _ (phis psis : List ℤ) (J k rank : ℕ) (e : rank ≡ rank_of (part_by_index J k)) where
  pub run_phi : (l : ℕ) → l ≤ J → run_of phis rank 0 l ≡ shared_by phis psis J k l
  unfolding shared_by
  run_phi l h = rw (part_by_index_phi J l h) (ap₂ (λ r n. part phis (min r n)) e (zero-add l))

  pub run_psi : (l : ℕ) → J < l → run_of psis rank 1 (l - (J + 1)) ≡ shared_by phis psis J k l
  unfolding shared_by
  run_psi l h = rw (part_psi J l h) (ap₂ (λ r n. part psis (min r n)) e (add_comm 1 (l - (J + 1))))

-- an entry on the diagonal, and off it
module _ (own : List ℕ) (shares : List ℤ) (J k : ℕ) where
  pub entry_on : pos (at own k) +ℤ share_of shares J k k ≡ entry_of own shares J k k
  unfolding entry_of
  entry_on = ap (λ x. x +ℤ share_of shares J k k) (sym (only_same k (pos (at own k))))

  pub entry_off : (l : ℕ) → k ≢ l → share_of shares J k l ≡ entry_of own shares J k l
  unfolding entry_of
  entry_off l apart =
      sym (+ℤ_idl (share_of shares J k l)) ∙ ap (λ x. x +ℤ share_of shares J k l) (sym (only_apart k l (pos (at own k)) apart))

-- ---- stretches and rows

module _ {at : ℕ} {f : ℕ → ℤ} {before : List ℤ} where
  pub stretch_none : length before ≡ 961 → Stretch 0 at f before before
  stretch_none long = record { long = long; there = λ i below. absurd (omega arith); earlier = λ i _. refl }

  pub stretch_to : {n n' : ℕ} {m : List ℤ} → n ≡ n' → Stretch n at f before m → Stretch n' at f before m
  stretch_to {m = m} e h = subst (λ i. Stretch i at f before m) e h

  pub stretch_as : {n : ℕ} {m : List ℤ} {g : ℕ → ℤ} → Stretch n at f before m → ((i : ℕ) → f i ≡ g i) → Stretch n at g before m
  stretch_as h e = record { long = h.long; there = λ i below. h.there i below ∙ e i; earlier = h.earlier }

  -- one cell is put, and the others stay
  pub stretch_put : {n n' i : ℕ} {m : List ℤ} {z : ℤ} {g : ℕ → ℤ} → Stretch n at f before m → at + i < 961 → z ≡ g i
      → ((l : ℕ) → l < n' → i ≢ l → (l < n) × (f l ≡ g l)) → Stretch n' at g before (set m (at + i) z)
  stretch_put {n} {n'} {i} {m} {z} {g} h room e others = record {
    long = length-set m (at + i) z ∙ h.long;
    there = λ l below. by_place l below (eqb i l) refl;
    earlier = λ l below. get_or-set_other m (at + i) l z (pos 0) (λ same. omega arith) ∙ h.earlier l below;
  }
    where
      by_place : (l : ℕ) → l < n' → (b : Bool) → eqb i l ≡ b → part (set m (at + i) z) (at + l) ≡ g l
      by_place l below true t =
          let here = eqb-true i l t in
          ap (λ n. part (set m (at + i) z) (at + n)) (sym here)
          ∙ get_or-set_same m (at + i) z (pos 0) (omega (arith, h.long))
          ∙ e
          ∙ ap g here
      by_place l below false t =
          let apart = eqb-false i l t in
          get_or-set_other m (at + i) (at + l) z (pos 0) (λ same. apart (omega arith))
          ∙ h.there l (others l below apart).0
          ∙ (others l below apart).1

  pub stretch_next : {n : ℕ} {m : List ℤ} {z : ℤ} → Stretch n at f before m → at + n < 961 → z ≡ f n
      → Stretch (n + 1) at f before (set m (at + n) z)
  stretch_next h room e = stretch_put h room e (λ l below apart. (omega arith, refl))

  -- one stretch behind another
  pub stretch_join : {n n' at' : ℕ} {g h : ℕ → ℤ} {mid m : List ℤ} → Stretch n at f before mid → at' ≡ at + n → Stretch n' at' g mid m
      → ((i : ℕ) → i < n → f i ≡ h i) → ((i : ℕ) → n ≤ i → i < n + n' → g (i - n) ≡ h i) → Stretch (n + n') at h before m
  stretch_join {n} {n'} {at'} {g} {h} {mid} {m} one behind two of_one of_two = record {
    long = two.long;
    there = λ i below. by_side i below (leb n i) refl;
    earlier = λ i below. two.earlier i (omega arith) ∙ one.earlier i below;
  }
    where
      by_side : (i : ℕ) → i < n + n' → (b : Bool) → leb n i ≡ b → part m (at + i) ≡ h i
      by_side i below false t =
          let left = leb-false n i t in
          two.earlier (at + i) (omega arith) ∙ one.there i left ∙ of_one i left
      by_side i below true t =
          let right = leb-true n i t in
          let place : at + i ≡ at' + (i - n) = omega arith in
          ap (part m) place ∙ two.there (i - n) (omega arith) ∙ of_two i right below

module _ {own : List ℕ} {shares : List ℤ} {last : ℕ} where
  pub rows_none : (m : List ℤ) → length m ≡ 961 → RowsTo 0 own shares last m
  rows_none m long = record { long = long; there = λ k below. absurd (omega arith) }

  pub rows_next : {n : ℕ} {before m : List ℤ} → last ≤ 15 → RowsTo n own shares last before → RowOf before own shares last n m
      → RowsTo (n + 1) own shares last m
  rows_next {n} {before} {m} few h r = record { long = r.whole.long; there = λ k below. by_row k (eq-or-lt_of_le (omega arith)) }
    where
      by_row : (k : ℕ) → (k ≡ n) ⊎ (k < n) → (l : ℕ) → l < parts last → part m (31 * k + l) ≡ entry_of own shares last k l
      by_row k (inl here) l l-below = subst (λ i. part m (31 * i + l) ≡ entry_of own shares last i l) (sym here) (r.whole.there l l-below)
      by_row k (inr above) l l-below = r.whole.earlier (31 * k + l) (omega arith) ∙ h.there k above l l-below

  pub rows_to : {n n' : ℕ} {m : List ℤ} → n ≡ n' → RowsTo n own shares last m → RowsTo n' own shares last m
  rows_to {m = m} e h = subst (λ i. RowsTo i own shares last m) e h
