-- The contract of the whole: arrays of observations that are inside their limits give the figures of every chain that they hold, and each
-- function what it asks.
use Rattle.std.specs.Prelude.{ℕ, ◌*◌, ◌^◌, ◌≤◌, ◌<◌, ◌≡◌, List, ℤ, pos, nat_abs}
use Rattle.std.proofs.Common.{sym, subst, ◌∙◌, le_trans, mul-le-mul, arith}
use Rattle.std.proofs.Math.Decide.{dec_le}
use Rattle.integers.specs.Total.{total_bound, sum_size}
use Rattle.definitions.specs.Words.{part}
use Rattle.definitions.specs.Layout.{parts, cells}
use Rattle.definitions.specs.Refusals.{year_limit}
use Rattle.definitions.specs.Observations.{Chain}
use Rattle.definitions.specs.Kept.{steps_of}
use Rattle.definitions.specs.Matrix.{own, matrix, right_hand_side, figures_from}
use Rattle.laws.proofs.Marks.{steps_few}
use Rattle.laws.proofs.Diagonal.{matrix_symmetric}
use Rattle.laws.proofs.Tables.{tab_cong}
use Rattle.observations.specs.Arrays.{at, mean_at, prior_at, ratio_at}
use Rattle.observations.specs.HoldsChain.{HoldsChain}
use Rattle.observations.specs.Strikes.{LeftIn}
use Rattle.observations.proofs.StrikeLaws.{unmarked_few}
use Rattle.chain.specs.Arrays.{figures_at, figures_of, cell, cell_at, cell_mirrored}
use Rattle.figures.specs.Weights.{Shares, SharesOf, Owns, OwnWeights}
use Rattle.figures.specs.Entries.{OfMatrix, MatrixOf}
use Rattle.figures.specs.Sums.{Logs, ColumnSums, RatioSums, OfTargets, Targets}
use Rattle.figures.specs.SumLaws.{column_sum_small, ratio_sum_small}
use Rattle.figures.specs.Agree.{own_agrees, shares_agree, entry_agrees, ratios_agree, target_agrees}

pub record OfObservations (ticks : List ℤ) (weights : List ℕ) (last : ℕ) : Type 0 where
  pub few : last ≤ year_limit
  pub logs_small : (c : ℕ) → c < 2 * cells last → nat_abs (part ticks c) ≤ 2 ^ 26
  pub means_small : (k : ℕ) → k < parts last → nat_abs (mean_at ticks k) ≤ 2 ^ 26
  pub columns_small : (k : ℕ) → k < parts last → at weights k ≤ 2 ^ 28
  pub priors_small : (k : ℕ) → k < parts last → prior_at weights k ≤ 2 ^ 28
  pub ratios_small : (d : ℕ) → d < last → ratio_at weights d ≤ 2 ^ 27

-- with whatever closeness
pub record FiguresOf (ticks : List ℤ) (weights struck : List ℕ) (last : ℕ) (D : List ℕ) (A b : List ℤ) : Type 0 where
  pub are : (c : Chain) → c.last ≡ last → HoldsChain c ticks weights struck
      → (e : ℕ) → figures_of (figures_at last e D A b) ≡ figures_from c e

-- what is made of the arrays
pub record Made : Type 0 where
  pub left : List ℕ
  pub own : List ℕ
  pub shared : List ℤ
  pub sums : List ℤ
  pub ratios : List ℤ

pub record MadeOf (ticks : List ℤ) (weights struck : List ℕ) (last : ℕ) (a : Made) : Type 0 where
  pub left_are : LeftIn struck last a.left
  pub own_are : OwnWeights weights a.left last a.own
  pub shared_are : SharesOf weights last a.shared
  pub sums_are : ColumnSums ticks struck last a.sums
  pub ratios_are : RatioSums weights ticks last a.ratios

module _ {ticks : List ℤ} {weights : List ℕ} {J : ℕ} (h : OfObservations ticks weights J) where
  -- ---- what each function asks

  pub asks_shares : Shares weights J
  asks_shares = record { few = h.few; small = λ d below. omega (arith, h.ratios_small d below) }

  left_few : {struck left : List ℕ} → LeftIn struck J left → (k : ℕ) → k < parts J → at left k ≤ 16
  left_few {struck} counts k below =
      rw (counts.filled.front k below) (le_trans (unmarked_few struck k (steps_of J k)) (steps_few J k h.few))

  logs : Logs ticks J
  logs = record { few = h.few; small = h.logs_small }

  pub asks_own : {struck left : List ℕ} → LeftIn struck J left → Owns weights left J
  asks_own {struck} counts = record {
    few = h.few;
    left_few = left_few counts;
    columns_small = h.columns_small;
    priors_small = h.priors_small;
  }

  module _ {struck : List ℕ} {a : Made} (m : MadeOf ticks weights struck J a) where
    pub asks_targets : OfTargets weights ticks a.sums a.ratios J
    asks_targets = record {
      few = h.few;
      columns_small = h.columns_small;
      priors_small = h.priors_small;
      means_small = h.means_small;
      sums_small = λ k below. rw (m.sums_are.filled.front k below) (column_sum_small ticks struck J logs k);
      ratios_small = λ r few. rw (m.ratios_are.is r few) (ratio_sum_small weights ticks J r logs h.ratios_small few);
    }

    pub asks_matrix : OfMatrix a.own a.shared J
    asks_matrix = record {
      few = h.few;
      own_small = λ k below.
          let observed = mul-le-mul (left_few m.left_are k below) (h.columns_small k below) in
          rw (m.own_are.filled.front k below) (omega (arith, h.priors_small k below));
      shares_small = λ r few.
          let term : ℕ → ℤ = λ d. pos (ratio_at weights d) in
          let bounded = total_bound r (2 ^ 27) {f = λ d. nat_abs (term d)} (λ d below. h.ratios_small d (omega arith)) in
          rw (m.shared_are.is r few) (omega (arith, h.few, sum_size r term, bounded));
    }

-- ---- the figures

module _ {ticks : List ℤ} {weights struck : List ℕ} {a : Made} {targets A : List ℤ} (c : Chain) (h : HoldsChain c ticks weights struck)
    (m : MadeOf ticks weights struck c.last a) (t : Targets weights ticks a.sums a.ratios c.last targets)
    (filled : MatrixOf a.own a.shared c.last A) where
  abbrev J : ℕ
  J = c.last

  own_is : (k : ℕ) → k < parts J → at a.own k ≡ own c k
  own_is = own_agrees c ticks weights struck h m.left_are m.own_are

  -- an entry on or below the diagonal is the one that is filled, and one above it is that of its mirror
  on_or_below : (k j : ℕ) → k < parts J → j < parts J → j ≤ k → cell A k j ≡ matrix c k j
  on_or_below k j k-below j-below before =
      cell_at A k j before
      ∙ filled.whole.there k k-below j j-below
      ∙ entry_agrees c ticks weights struck h a.own a.shared own_is
      (shares_agree c ticks weights struck h m.shared_are) k j k-below j-below

  cell_is : (k j : ℕ) → k < parts J → j < parts J → cell A k j ≡ matrix c k j
  cell_is k j k-below j-below = by_side (dec_le j k)
    where
      by_side : Dec (j ≤ k) → cell A k j ≡ matrix c k j
      by_side (yes before) = on_or_below k j k-below j-below before
      by_side (no after) =
          cell_mirrored A k j
          ∙ on_or_below j k j-below k-below (omega (arith, after))
          ∙ matrix_symmetric c j k j-below k-below

  target_is : (k : ℕ) → k < parts J → part targets k ≡ right_hand_side c k
  target_is k below =
      t.filled.front k below
      ∙ target_agrees c ticks weights struck h a.ratios m.sums_are (ratios_agree c ticks weights struck h m.ratios_are) k below

  gathered : (e : ℕ) → figures_of (figures_at J e a.own A targets) ≡ figures_from c e
  unfolding figures_of figures_from
  gathered e = λ i. record {
    last = J;
    closeness = e;
    own = tab_cong 0 (parts J) (λ k _ to. own_is k (omega arith)) i;
    matrix = tab_cong 0 (parts J) (λ k _ k-to. tab_cong 0 (parts J) (λ j _ j-to. cell_is k j (omega arith) (omega arith))) i;
    right_hand_side = tab_cong 0 (parts J) (λ k _ to. target_is k (omega arith)) i;
  }

pub all_gathered : {ticks : List ℤ} {weights struck : List ℕ} {last : ℕ} {a : Made} {targets A : List ℤ}
    → MadeOf ticks weights struck last a
    → Targets weights ticks a.sums a.ratios last targets → MatrixOf a.own a.shared last A
    → FiguresOf ticks weights struck last a.own A targets
all_gathered {ticks} {weights} {struck} {last} {a} {targets} {A} m t filled = record {
  are = λ c same h e.
      subst (λ J. figures_of (figures_at J e a.own A targets) ≡ figures_from c e) same
      (gathered c h (subst (λ J. MadeOf ticks weights struck J a) (sym same) m)
      (subst (λ J. Targets weights ticks a.sums a.ratios J targets) (sym same) t)
      (subst (λ J. MatrixOf a.own a.shared J A) (sym same) filled) e);
}
