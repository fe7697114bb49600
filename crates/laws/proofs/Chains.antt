-- What the laws ask of a chain, whatever it was made of. It is bounded where its weights and observations have upper limits, and that is
-- all that any size needs. It is carried where each column has an observation of weight at least 1 and at least each g that its part
-- shares, and that is all that the guarantee, the positive diagonal and the sweep need.
use Rattle.std.specs.Prelude.{ℕ, ◌+◌, ◌-◌, ◌≤◌, ◌<◌}
use Rattle.std.proofs.Common.{sym, le_trans, arith}
use Rattle.std.proofs.Math.Path.{subst}
use Rattle.integers.specs.Total.{total_term}
use Rattle.definitions.specs.Layout.{parts}
use Rattle.definitions.specs.Observations.{Chain}
use Rattle.definitions.specs.Matrix.{Part, Φ, Ψ, part_by_index, own_of, own}
use Rattle.laws.specs.Ranks.{rank_of}
use Rattle.laws.proofs.Ranks.{part_by_index_phi, part_by_index_psi, by_part}
use Rattle.laws.proofs.Sizes.{rank}
use Rattle.laws.specs.Chains.{Carried}

-- ---- limits

-- ---- carried

-- each part has an own weight, and each g that it shares is at most that
pub record Owned (c : Chain) : Type 0 where
  pub owned : (k : ℕ) → k < parts c.last → 1 ≤ own c k
  pub shares : (k : ℕ) → k < parts c.last → (d : ℕ) → d < rank c k → c.g d ≤ own c k

module _ (c : Chain) where
  abbrev J : ℕ
  J = c.last

  -- what holds of the own weight of every Φ and of every Ψ
  pub by_own : (P : ℕ → Part → Type 0)
      → ((j : ℕ) → j ≤ J → P (own_of c (Φ j)) (Φ j))
      → ((j : ℕ) → j < J → P (own_of c (Ψ j)) (Ψ j))
      → (k : ℕ) → k < parts J → P (own c k) (part_by_index J k)
  unfolding own
  by_own P phi psi =
      by_part J (λ k. P (own_of c (part_by_index J k)) (part_by_index J k))
      (λ j below. subst (λ a. P (own_of c a) a) (sym (part_by_index_phi J j below)) (phi j below))
      (λ j below. subst (λ a. P (own_of c a) a) (sym (part_by_index_psi J j)) (psi j below))

  -- an own weight is at least the weight of each observation of its own, whatever the prior
  pub own_of_x : (i j : ℕ) → i + j ≤ J → c.p i j ≤ own_of c (Φ j)
  own_of_x i j there = omega (arith, total_term (J - j + 1) i (λ n. c.p n j) (omega arith))

  pub own_of_z : (i j : ℕ) → i + j < J → c.q i j ≤ own_of c (Ψ j)
  own_of_z i j there = omega (arith, total_term (J - j) i (λ n. c.q n j) (omega arith))

  pub carried_owned : Carried c → Owned c
  carried_owned h = record {
    owned = by_own (λ D a. 1 ≤ D)
        (λ j below. le_trans (h.x_counts j below) (own_of_x (h.x_year j) j (h.x_there j below)))
        (λ j below. le_trans (h.z_counts j below) (own_of_z (h.z_year j) j (h.z_there j below)));
    shares = by_own (λ D a. (d : ℕ) → d < rank_of a → c.g d ≤ D)
        (λ j below d past. le_trans (h.x_shares d j past below) (own_of_x (h.x_year j) j (h.x_there j below)))
        (λ j below d past. le_trans (h.z_shares d j (omega arith) below) (own_of_z (h.z_year j) j (h.z_there j below)));
  }
