-- A chain without the struck steps is bounded where the whole chain is, and carried where a step is left in each column.
use Rattle.std.specs.Prelude.{ℕ, ◌+◌, ◌-◌, ◌≤◌, ◌<◌, ◌≡◌, refl, Bool, true, false, cond}
use Rattle.std.proofs.Common.{zero-le, subst, le_trans, arith}
use Rattle.std.proofs.Math.Decide.{dec_le, dec_lt}
use Rattle.integers.specs.Total.{total_const}
use Rattle.definitions.specs.Layout.{parts}
use Rattle.definitions.specs.Observations.{Chain}
use Rattle.definitions.specs.Matrix.{own}
use Rattle.definitions.specs.Strikes.{Step, step, left_beside, EachLeft, without}
use Rattle.laws.specs.Chains.{Bounded, Carried, Counted, Carries}
use Rattle.laws.proofs.Chains.{by_own, own_of_x, own_of_z}
use Rattle.laws.proofs.StruckSteps.{some_left}

-- nothing is struck
pub none_struck : (J : ℕ) → EachLeft J (λ s. false)
unfolding left_beside
none_struck J = record {
  paid = λ j few. rw (total_const (J - j + 1) 1) (omega arith);
  incurred = λ j below. rw (total_const (J - j) 1) (omega arith);
}

module _ (c : Chain) (struck : Step → Bool) where
  abbrev J : ℕ
  J = c.last

  abbrev left : Chain
  left = without struck c

  lighter : (t : Bool) {w limit : ℕ} → w ≤ limit → cond t 0 w ≤ limit
  lighter true to = zero-le
  lighter false to = to

  pub left_bounded : Bounded c → Bounded (without struck c)
  left_bounded h = record {
    years = h.years;
    p_to = λ i j there. lighter (struck (step 0 i j)) (h.p_to i j there);
    q_to = λ i j there. lighter (struck (step 1 i j)) (h.q_to i j there);
    s_to = h.s_to;
    t_to = h.t_to;
    g_to = h.g_to;
    x_to = h.x_to;
    z_to = h.z_to;
    y_to = h.y_to;
    prior_Φ_to = h.prior_Φ_to;
    prior_Ψ_to = h.prior_Ψ_to;
  }

  whole : {t : Bool} {w : ℕ} → t ≡ false → w ≡ cond t 0 w
  whole e = rw e refl

  module _ (h : EachLeft c.last struck) where
    -- a year of each column whose step is left
    pub left_x : (j : ℕ) → j ≤ c.last → (i : ℕ) × (i + j ≤ c.last) × (struck (step 0 i j) ≡ false)
    unfolding left_beside
    left_x j few =
        let found = some_left (J - j + 1) (λ i. struck (step 0 i j)) (h.paid j few) in
        (found.0, omega (arith, found.1), found.2)

    pub left_z : (j : ℕ) → j < c.last → (i : ℕ) × (i + j < c.last) × (struck (step 1 i j) ≡ false)
    unfolding left_beside
    left_z j below =
        let found = some_left (J - j) (λ i. struck (step 1 i j)) (h.incurred j below) in
        (found.0, omega (arith, found.1), found.2)

    x_weight : (j : ℕ) (few : j ≤ J) → c.p (left_x j few).0 j ≡ left.p (left_x j few).0 j
    x_weight j few = whole (left_x j few).2

    z_weight : (j : ℕ) (below : j < J) → c.q (left_z j below).0 j ≡ left.q (left_z j below).0 j
    z_weight j below = whole (left_z j below).2

    pub left_owned : Counted c → (k : ℕ) → k < parts c.last → 1 ≤ own (without struck c) k
    left_owned counted =
        by_own left (λ D a. 1 ≤ D)
        (λ j few.
        let i = left_x j few in
        le_trans (subst (λ w. 1 ≤ w) (x_weight j few) (counted.x_counts i.0 j i.1)) (own_of_x left i.0 j i.1))
        (λ j below.
        let i = left_z j below in
        le_trans (subst (λ w. 1 ≤ w) (z_weight j below) (counted.z_counts i.0 j i.1)) (own_of_z left i.0 j i.1))

    -- of a column that is not there any year will do
    abbrev x_year : {j : ℕ} → Dec (j ≤ J) → ℕ
    x_year {j} (yes few) = (left_x j few).0
    x_year (no above) = 0

    abbrev z_year : {j : ℕ} → Dec (j < J) → ℕ
    z_year {j} (yes below) = (left_z j below).0
    z_year (no above) = 0

    by_x : (j : ℕ) (P : ℕ → Type 0) → ((few : j ≤ J) → P (left_x j few).0) → (d : Dec (j ≤ J)) → j ≤ J → P (x_year d)
    by_x j P holds (yes few) _ = holds few
    by_x j P holds (no above) few = absurd (above few)

    by_z : (j : ℕ) (P : ℕ → Type 0) → ((below : j < J) → P (left_z j below).0) → (d : Dec (j < J)) → j < J → P (z_year d)
    by_z j P holds (yes below) _ = holds below
    by_z j P holds (no above) below = absurd (above below)

    pub left_carried : Carries c → Carried (without struck c)
    left_carried carries = record {
      x_year = λ j. x_year (dec_le j J);
      x_there = λ j. by_x j (λ i. i + j ≤ J) (λ few. (left_x j few).1) (dec_le j J);
      x_counts = λ j. by_x j (λ i. 1 ≤ left.p i j) (λ few.
          let i = left_x j few in subst (λ w. 1 ≤ w) (x_weight j few) (carries.counted.x_counts i.0 j i.1)) (dec_le j J);
      x_shares = λ d j past. by_x j (λ i. c.g d ≤ left.p i j) (λ few.
          let i = left_x j few in subst (λ w. c.g d ≤ w) (x_weight j few) (carries.x_shares d i.0 j past i.1)) (dec_le j J);
      z_year = λ j. z_year (dec_lt j J);
      z_there = λ j. by_z j (λ i. i + j < J) (λ below. (left_z j below).1) (dec_lt j J);
      z_counts = λ j. by_z j (λ i. 1 ≤ left.q i j) (λ below.
          let i = left_z j below in subst (λ w. 1 ≤ w) (z_weight j below) (carries.counted.z_counts i.0 j i.1)) (dec_lt j J);
      z_shares = λ d j past. by_z j (λ i. c.g d ≤ left.q i j) (λ below.
          let i = left_z j below in subst (λ w. c.g d ≤ w) (z_weight j below) (carries.z_shares d i.0 j past i.1)) (dec_lt j J);
    }
