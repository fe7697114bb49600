-- The precision matrix is symmetric, and on its diagonal positive where the chain is carried: no part lacks an observation, and so none
-- needs a prior.
use Rattle.std.specs.Prelude.{ℕ, ◌+◌, ◌*◌, ◌≤◌, ◌<◌, min, ◌≡◌, refl, Bool, true, false, T, eqb, pos, ◌+ℤ◌, ◌*ℤ◌, ◌≤ℤ◌}
use Rattle.std.proofs.Common.{sym, ap, ap₂, ◌∙◌, subst, arith, eqb→eq}
use Rattle.std.proofs.Math.IntN.{*ℤ_comm}
use Rattle.integers.specs.Order.{pos-≤}
use Rattle.integers.specs.Sum.{total}
use Rattle.integers.specs.SumRange.{only, only_same}
use Rattle.integers.specs.Total.{pos_total}
use Rattle.definitions.specs.Layout.{parts}
use Rattle.definitions.specs.Observations.{Chain}
use Rattle.definitions.specs.Matrix.{Part, Φ, Ψ, part_by_index, own, matrix, shared_by}
use Rattle.laws.specs.Chains.{Carried}
use Rattle.laws.proofs.Chains.{carried_owned}
use Rattle.laws.specs.Ranks.{rank_of, sign_of}
use Rattle.laws.proofs.Ranks.{rank_entry, matrix_by_ranks, same_index}

module _ (c : Chain) where
  entry_symmetric : (a b : Part) → rank_entry c a b ≡ rank_entry c b a
  entry_symmetric a b = ap₂ ◌*ℤ◌ (*ℤ_comm (sign_of a) (sign_of b)) (ap (shared_by c) (either (rank_of a) (rank_of b)))
    where
      either : (m n : ℕ) → min m n ≡ min n m
      either m n = omega arith

  pub matrix_symmetric : (k l : ℕ) → k < parts c.last → l < parts c.last → matrix c k l ≡ matrix c l k
  matrix_symmetric k l k-below l-below =
      matrix_by_ranks c k l k-below l-below
      ∙ ap₂ ◌+ℤ◌ (on_diagonal_lem (eqb k l) refl) (entry_symmetric (part_by_index c.last k) (part_by_index c.last l))
      ∙ sym (matrix_by_ranks c l k l-below k-below)
    where
      turned : eqb k l ≡ eqb l k
      turned = same_index k l l k sym sym

      on_diagonal_lem : (t : Bool) → eqb k l ≡ t → only (eqb k l) (pos (own c k)) ≡ only (eqb l k) (pos (own c l))
      on_diagonal_lem true e = ap₂ only turned (ap (λ n. pos (own c n)) (eqb→eq k l (subst T (sym e) tt)))
      on_diagonal_lem false e = ap (λ a. only a (pos (own c k))) e ∙ sym (ap (λ a. only a (pos (own c l))) (sym turned ∙ e))

  -- a diagonal entry is the own weight and the first g, as many as the part's rank
  pub diagonal_is : (k : ℕ) → k < parts c.last → matrix c k k ≡ pos (own c k + total (rank_of (part_by_index c.last k)) c.g)
  diagonal_is k below =
      matrix_by_ranks c k k below below
      ∙ ap₂ ◌+ℤ◌ (only_same k (pos (own c k))) (same_sign (part_by_index c.last k))
    where
      same_rank : (n : ℕ) → min n n ≡ n
      same_rank n = omega arith

      same_sign : (a : Part) → rank_entry c a a ≡ pos (total (rank_of a) c.g)
      same_sign a =
          ap₂ ◌*ℤ◌ (one a) (ap (shared_by c) (same_rank (rank_of a)) ∙ sym (pos_total (rank_of a) c.g))
          ∙ ap pos (whole (total (rank_of a) c.g))
        where
          one : (a : Part) → sign_of a *ℤ sign_of a ≡ pos 1
          one (Φ j) = refl
          one (Ψ j) = refl

          whole : (n : ℕ) → 1 * n ≡ n
          whole n = omega arith

  -- with an own weight, as each part of a carried chain has it
  pub diagonal_owned : (k : ℕ) → k < parts c.last → 1 ≤ own c k → pos 1 ≤ℤ matrix c k k
  diagonal_owned k below owned = subst (λ a. pos 1 ≤ℤ a) (sym (diagonal_is k below)) (pos-≤.0 (omega (arith, owned)))

  pub diagonal_positive : Carried c → (k : ℕ) → k < parts c.last → pos 1 ≤ℤ matrix c k k
  diagonal_positive h k below = diagonal_owned k below ((carried_owned c h).owned k below)
