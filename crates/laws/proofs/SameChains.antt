-- The figures of a chain depend on its triangles alone: two chains that agree on every observation there is, with its weight, on the priors
-- and on the ratios have the same own weights, matrix and right-hand side.
use Rattle.std.specs.Prelude.{ℕ, ◌+◌, ◌-◌, ◌≤◌, ◌<◌, min, ◌≡◌, refl, cond, eqb, pos, neg_ℤ, ◌+ℤ◌, ◌-ℤ◌, ◌*ℤ◌}
use Rattle.std.proofs.Common.{sym, ap, ap₂, subst, arith}
use Rattle.integers.specs.Sum.{sum_cong}
use Rattle.integers.specs.Total.{total_cong}
use Rattle.definitions.specs.Layout.{parts}
use Rattle.definitions.specs.Observations.{Chain}
use Rattle.definitions.specs.Matrix.{Part, Φ, Ψ, part_by_index, own_of, own, shared_by, between, matrix, ratios_of_last, target_of, right_hand_side}
use Rattle.definitions.specs.Matrix.{figures_from}
use Rattle.laws.proofs.Ranks.{part_by_index_phi, part_by_index_psi, by_part}
use Rattle.laws.proofs.Tables.{tab_cong}
use Rattle.laws.specs.SameChains.{SameChain}

pub same_self : (c : Chain) → SameChain c c
same_self c = record {
  p = λ i j _. refl;
  q = λ i j _. refl;
  s = λ j _. refl;
  t = λ j _. refl;
  g = λ k _. refl;
  x = λ i j _. refl;
  z = λ i j _. refl;
  y = λ i _. refl;
  prior_Φ = λ j _. refl;
  prior_Ψ = λ j _. refl;
}

-- a chain with so many years
abbrev pub with_years : ℕ → Chain → Chain
with_years J c = record {
  last = J;
  p = c.p;
  q = c.q;
  s = c.s;
  t = c.t;
  g = c.g;
  x = c.x;
  z = c.z;
  y = c.y;
  prior_Φ = c.prior_Φ;
  prior_Ψ = c.prior_Ψ;
}

-- the parts that there are
abbrev pub IsPart : ℕ → Part → Type 0
IsPart J (Φ j) = j ≤ J
IsPart J (Ψ j) = j < J

pub is_part : (J k : ℕ) → k < parts J → IsPart J (part_by_index J k)
is_part J =
    by_part J (λ k. IsPart J (part_by_index J k))
    (λ j few. subst (IsPart J) (sym (part_by_index_phi J j few)) few)
    (λ j below. subst (IsPart J) (sym (part_by_index_psi J j)) below)

module _ (c d : Chain) (h : SameChain c d) where
  abbrev J : ℕ
  J = c.last

  abbrev e : Chain
  e = with_years J d

  own_of_lem : (a : Part) → IsPart J a → own_of c a ≡ own_of e a
  own_of_lem (Φ j) few = ap₂ ◌+◌ (h.s j few) (total_cong (J - j + 1) (λ i below. h.p i j (omega arith)))
  own_of_lem (Ψ j) below = ap₂ ◌+◌ (h.t j below) (total_cong (J - j) (λ i there. h.q i j (omega arith)))

  shared : (n : ℕ) → n ≤ J → shared_by c n ≡ shared_by e n
  shared n few = sum_cong n (λ k below. ap pos (h.g k (omega arith)))

  between_same : (a b : Part) → IsPart J a → IsPart J b → between c a b ≡ between e a b
  between_same (Φ n) (Φ m) n-few m-few =
      ap₂ (λ D s. cond (eqb n m) (pos D) (pos 0) +ℤ s) (own_of_lem (Φ n) n-few) (shared (min n m) (omega arith))
  between_same (Ψ n) (Ψ m) n-below m-below =
      ap₂ (λ D s. cond (eqb n m) (pos D) (pos 0) +ℤ s) (own_of_lem (Ψ n) n-below) (shared (min n m + 1) (omega arith))
  between_same (Φ n) (Ψ m) n-few m-below = ap neg_ℤ (shared (min n (m + 1)) (omega arith))
  between_same (Ψ m) (Φ n) m-below n-few = ap neg_ℤ (shared (min n (m + 1)) (omega arith))

  ratios : (n : ℕ) → n ≤ J → ratios_of_last c n ≡ ratios_of_last e n
  ratios n few =
      sum_cong n (λ k below. ap₂ (λ w y. pos w *ℤ y) (h.g (J - (J - n + 1 + k)) (omega arith)) (h.y (J - n + 1 + k) (omega arith)))

  target_of_lem : (a : Part) → IsPart J a → target_of c a ≡ target_of e a
  target_of_lem (Φ j) few =
      ap₂ ◌+ℤ◌
      (ap₂ ◌+ℤ◌ (ap₂ (λ w m. pos w *ℤ m) (h.s j few) (h.prior_Φ j few))
      (sum_cong (J - j + 1) (λ i below. ap₂ (λ w o. pos w *ℤ o) (h.p i j (omega arith)) (h.x i j (omega arith)))))
      (ratios j few)
  target_of_lem (Ψ j) below =
      ap₂ ◌-ℤ◌
      (ap₂ ◌+ℤ◌ (ap₂ (λ w m. pos w *ℤ m) (h.t j below) (h.prior_Ψ j below))
      (sum_cong (J - j) (λ i there. ap₂ (λ w o. pos w *ℤ o) (h.q i j (omega arith)) (h.z i j (omega arith)))))
      (ratios (j + 1) (omega arith))

  pub same_figures : (close : ℕ) → figures_from c close ≡ figures_from (with_years c.last d) close
  unfolding figures_from own matrix right_hand_side
  same_figures close = λ i. record {
    last = J;
    closeness = close;
    own = tab_cong 0 (parts J) (λ k _ to. own_of_lem (part_by_index J k) (is_part J k (omega arith))) i;
    matrix = tab_cong 0 (parts J) (λ k _ k-to. tab_cong 0 (parts J) (λ l _ l-to.
        between_same (part_by_index J k) (part_by_index J l) (is_part J k (omega arith)) (is_part J l (omega arith)))) i;
    right_hand_side = tab_cong 0 (parts J) (λ k _ to. target_of_lem (part_by_index J k) (is_part J k (omega arith))) i;
  }
