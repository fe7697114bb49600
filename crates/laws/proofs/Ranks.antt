-- Parts by index. A part has a rank, Φ_j the rank j and Ψ_j the rank j + 1, and a sign, + for Φ and − for Ψ: it takes part in the ratio of
-- development year d exactly if d is below its rank. Off the diagonal the matrix is the product of two parts' signs times the sum of the
-- first g, as many as the smaller of their ranks.
use Rattle.std.specs.Prelude.{ℕ, ◌+◌, ◌-◌, ◌≤◌, ◌<◌, min, ◌≡◌, refl, [], ◌∷◌, Bool, true, false, cond, T, leb, eqb, ℤ, pos, neg_ℤ, ◌+ℤ◌, ◌*ℤ◌}
use Rattle.std.proofs.Common.{sym, ap, ◌∙◌, subst, lt_of_not-le, arith, leb→le, le→leb, eqb→eq}
use Rattle.std.proofs.Math.Decide.{dec_le}
use Rattle.std.proofs.Math.Dec.{eqb_refl}
use Rattle.integers.specs.Ring.{*ℤ_idl}
use Rattle.integers.specs.Solver.{ring, ◌⊞◌, ◌⊠◌, ⊖◌, num, ◌≐◌}
use Rattle.integers.specs.SumRange.{only}
use Rattle.definitions.specs.Layout.{parts, psi_index}
use Rattle.definitions.specs.Observations.{Chain}
use Rattle.definitions.specs.Matrix.{Part, Φ, Ψ, part_by_index, own_of, own, between, matrix, shared_by}
use Rattle.laws.specs.Ranks.{rank_of, same_part, sign_of}

-- ---- the two kinds of index

pub part_by_index_phi : (J j : ℕ) → j ≤ J → part_by_index J j ≡ Φ j
unfolding part_by_index
part_by_index_phi J j h = ap (λ t. cond t (Φ j) (Ψ (j - (J + 1)))) (test (leb j J) (le→leb j J h))
  where
    test : (t : Bool) → T t → t ≡ true
    test true h = refl
    test false h = absurd h

pub part_by_index_psi : (J j : ℕ) → part_by_index J (psi_index J j) ≡ Ψ j
unfolding part_by_index
part_by_index_psi J j =
    ap (λ t. cond t (Φ (psi_index J j)) (Ψ (psi_index J j - (J + 1)))) (test (leb (psi_index J j) J) (leb→le (psi_index J j) J))
    ∙ ap Ψ (back J j)
  where
    test : (t : Bool) → (T t → psi_index J j ≤ J) → t ≡ false
    test true h = absurd (too_far (h tt))
      where
        too_far : psi_index J j ≤ J → ⊥
        too_far h = omega arith
    test false h = refl

    back : (J j : ℕ) → J + 1 + j - (J + 1) ≡ j
    back J j = omega arith

pub part_psi : (J k : ℕ) → J < k → part_by_index J k ≡ Ψ (k - (J + 1))
part_psi J k h = ap (part_by_index J) (sym (behind h)) ∙ part_by_index_psi J (k - (J + 1))
  where
    behind : J < k → J + 1 + (k - (J + 1)) ≡ k
    behind h = omega arith

-- what holds of every Φ and of every Ψ holds of every part
pub by_part : (J : ℕ) (P : ℕ → Type 0) → ((j : ℕ) → j ≤ J → P j) → ((j : ℕ) → j < J → P (psi_index J j)) → (k : ℕ) → k < parts J → P k
by_part J P phi psi k below = by_side (dec_le k J)
  where
    behind : J < k → J + 1 + (k - (J + 1)) ≡ k
    behind h = omega arith

    by_side : Dec (k ≤ J) → P k
    by_side (yes h) = phi k h
    by_side (no h) = let past = lt_of_not-le h in subst P (behind past) (psi (k - (J + 1)) (omega arith))

pub rank_below : (J k : ℕ) → k < parts J → rank_of (part_by_index J k) ≤ J
rank_below J = by_part J (λ k. rank_of (part_by_index J k) ≤ J)
    (λ j h. subst (λ p. rank_of p ≤ J) (sym (part_by_index_phi J j h)) h)
    (λ j h. subst (λ p. rank_of p ≤ J) (sym (part_by_index_psi J j)) (omega arith))

-- ---- the matrix by ranks

-- two tests that pass together are one
pub same_test : (s t : Bool) → (T s → T t) → (T t → T s) → s ≡ t
same_test true true f g = refl
same_test true false f g = absurd (f tt)
same_test false true f g = absurd (g tt)
same_test false false f g = refl

pub same_index : (a b c d : ℕ) → (a ≡ b → c ≡ d) → (c ≡ d → a ≡ b) → eqb a b ≡ eqb c d
same_index a b c d f g = same_test (eqb a b) (eqb c d) (λ t. holds (f (eqb→eq a b t))) (λ t. holds (g (eqb→eq c d t)))
  where
    holds : {m n : ℕ} → m ≡ n → T (eqb m n)
    holds {m} e = subst (λ n. T (eqb m n)) e (eqb_refl m)

apart : (a b : ℕ) → (a ≡ b → ⊥) → eqb a b ≡ false
apart a b f = same_test (eqb a b) false (λ t. f (eqb→eq a b t)) (λ t. absurd t)

pub same_part_lem : (J k l : ℕ) → k < parts J → l < parts J → eqb k l ≡ same_part (part_by_index J k) (part_by_index J l)
same_part_lem J k l k-below l-below =
    by_part J (λ k. eqb k l ≡ same_part (part_by_index J k) (part_by_index J l))
    (λ j h. by_part J (λ l. eqb j l ≡ same_part (part_by_index J j) (part_by_index J l))
    (λ i g. rw (part_by_index_phi J j h, part_by_index_phi J i g) refl)
    (λ i g. rw (part_by_index_phi J j h, part_by_index_psi J i) (apart j (psi_index J i) (λ e. omega arith)))
    l l-below)
    (λ j h. by_part J (λ l. eqb (psi_index J j) l ≡ same_part (part_by_index J (psi_index J j)) (part_by_index J l))
    (λ i g. rw (part_by_index_psi J j, part_by_index_phi J i g) (apart (psi_index J j) i (λ e. omega arith)))
    (λ i g. rw (part_by_index_psi J j, part_by_index_psi J i) (same_index (psi_index J j) (psi_index J i) j i (λ e. omega arith) (λ e. omega arith)))
    l l-below)
    k k-below

module _ (c : Chain) where
  abbrev pub rank_entry : Part → Part → ℤ
  rank_entry a b = sign_of a *ℤ sign_of b *ℤ shared_by c (min (rank_of a) (rank_of b))

  pub entry_by_ranks : (a b : Part) → between c a b ≡ only (same_part a b) (pos (own_of c a)) +ℤ rank_entry a b
  entry_by_ranks (Φ n) (Φ m) = ap (λ z. only (eqb n m) (pos (own_of c (Φ n))) +ℤ z) (sym (*ℤ_idl (shared_by c (min n m))))
  entry_by_ranks (Ψ n) (Ψ m) =
      ap (λ z. only (eqb n m) (pos (own_of c (Ψ n))) +ℤ z) (ap (shared_by c) (shifted n m) ∙ sym (*ℤ_idl (shared_by c (min (n + 1) (m + 1)))))
    where
      shifted : (n m : ℕ) → min n m + 1 ≡ min (n + 1) (m + 1)
      shifted n m = omega arith
  entry_by_ranks (Φ n) (Ψ m) = ring (shared_by c (min n (m + 1)) ∷ []) (λ s. ⊖ s ≐ num 0 ⊞ num 1 ⊠ ⊖ num 1 ⊠ s) tt
  entry_by_ranks (Ψ m) (Φ n) =
      ap (λ k. neg_ℤ (shared_by c k)) (turned n m)
      ∙ ring (shared_by c (min (m + 1) n) ∷ []) (λ s. ⊖ s ≐ num 0 ⊞ ⊖ num 1 ⊠ num 1 ⊠ s) tt
    where
      turned : (n m : ℕ) → min n (m + 1) ≡ min (m + 1) n
      turned n m = omega arith

  pub matrix_by_ranks : (k l : ℕ) → k < parts c.last → l < parts c.last
      → matrix c k l ≡ only (eqb k l) (pos (own c k)) +ℤ rank_entry (part_by_index c.last k) (part_by_index c.last l)
  unfolding matrix own
  matrix_by_ranks k l k-below l-below =
      rw (same_part_lem c.last k l k-below l-below) (entry_by_ranks (part_by_index c.last k) (part_by_index c.last l))
