-- The arrays of observations give the specification's own weights, matrix and right-hand side of every chain that they hold.
use Prim.Native.Nat.{ℕ, zero, suc, ◌+◌, ◌*◌, ◌-◌, ◌≤◌, ◌<◌, min}
use Rattle.std.specs.Prelude.{◌≡◌, cond, List, eqb, ℤ, ◌+ℤ◌, ◌*ℤ◌}
use Rattle.std.proofs.Math.Path.{sym, ap, ap₂}
use Rattle.std.proofs.Common.{subst, ◌∙◌, zero-add}
use native.Mathlib.Omega.{arith}
use Rattle.std.proofs.Math.IntN.{pos, ◌-ℤ◌}
use Rattle.integers.specs.Sum.{sum, sum_cong}
use Rattle.integers.specs.SumRange.{only}
use Rattle.definitions.specs.Words.{part}
use Rattle.definitions.specs.Layout.{parts, psi_index, cells, row_start}
use Rattle.definitions.specs.Observations.{Chain}
use Rattle.definitions.specs.Kept.{steps_of, paid_step_in}
use Rattle.definitions.specs.Matrix.{Part, Φ, Ψ, part_by_index, own_of, own, matrix, shared_by, ratios_of_last, right_hand_side}
use Rattle.laws.proofs.Columns.{own_of_phi, own_of_psi, firsts_of_phi, firsts_of_psi}
use Rattle.laws.proofs.Marks.{steps_phi, steps_psi}
use Rattle.laws.specs.Ranks.{rank_of, sign_of}
use Rattle.laws.proofs.Ranks.{part_by_index_phi, part_by_index_psi, by_part, rank_below, matrix_by_ranks}
use Rattle.laws.proofs.PrecisionMatrix.{ratios_by_development, target_by_rank}
use Rattle.laws.specs.PrecisionMatrix.{firsts_of}
use Rattle.observations.specs.Arrays.{at, mean_at, prior_at, mark_at, unmarked}
use Rattle.observations.specs.HoldsChain.{HoldsChain}
use Rattle.observations.specs.Strikes.{LeftIn}
use Rattle.figures.specs.Weights.{SharesOf, OwnWeights}
use Rattle.figures.specs.Entries.{entry_of}
use Rattle.figures.specs.Sums.{step_of, counted_at, step_sum, start_sum, column_of, column_sum, ColumnSums, ratio_of, RatioSums, target_from}

module _ (c : Chain) (ticks : List ℤ) (weights struck : List ℕ) (h : HoldsChain c ticks weights struck) where
  abbrev J : ℕ
  J = c.last

  abbrev n : ℕ
  n = parts J

  abbrev kind : ℕ → Part
  kind = part_by_index J

  -- ---- own weights

  pub own_agrees : {left D : List ℕ} → LeftIn struck J left → OwnWeights weights left J D → (k : ℕ) → k < n → at D k ≡ own c k
  unfolding own
  own_agrees {left} {D} counts o =
      by_part J (λ k. at D k ≡ own_of c (kind k))
      (λ j few. own_by j (omega arith) (steps_phi J j few)
      ∙ sym (own_of_phi c j (at weights j) (mark_at struck j) few (λ i there. h.p i j there)
      ∙ ap (λ s. s + unmarked struck j (J - j + 1) * at weights j) (h.s j few))
      ∙ ap (own_of c) (sym (part_by_index_phi J j few)))
      (λ j below. let k = psi_index J j in own_by k (omega arith) (steps_psi J k (omega arith) ∙ back j)
      ∙ sym (own_of_psi c j (at weights k) (mark_at struck k) (λ i there. h.q i j there)
      ∙ ap (λ t. t + unmarked struck k (J - j) * at weights k) (h.t j below))
      ∙ ap (own_of c) (sym (part_by_index_psi J j)))
    where
      own_by : (k : ℕ) → k < n → {m : ℕ} → steps_of J k ≡ m → at D k ≡ prior_at weights k + unmarked struck k m * at weights k
      own_by k below e =
          o.filled.front k below
          ∙ ap (λ m. prior_at weights k + m * at weights k) (counts.filled.front k below ∙ ap (unmarked struck k) e)

      back : (j : ℕ) → 2 * J + 1 - (J + 1 + j) ≡ J - j
      back j = omega arith

  -- ---- matrix

  pub shares_agree : {sums : List ℤ} → SharesOf weights J sums → (m : ℕ) → m ≤ J → part sums m ≡ shared_by c m
  shares_agree sums m few = sums.is m few ∙ sum_cong m (λ d below. ap pos (sym (h.g d (omega arith))))

  pub entry_agrees : (D : List ℕ) (sums : List ℤ)
      → ((k : ℕ) → k < n → at D k ≡ own c k) → ((m : ℕ) → m ≤ J → part sums m ≡ shared_by c m)
      → (k l : ℕ) → k < n → l < n → entry_of D sums J k l ≡ matrix c k l
  unfolding entry_of
  entry_agrees D sums own_weights shared k l k-below l-below =
      let common = shared (min (rank_of (kind k)) (rank_of (kind l))) (omega (arith, rank_below J k k-below)) in
      ap₂ (λ d s. only (eqb k l) (pos d) +ℤ sign_of (kind k) *ℤ sign_of (kind l) *ℤ s) (own_weights k k-below) common
      ∙ sym (matrix_by_ranks c k l k-below l-below)

  -- ---- a part's own observations, those that are struck left out

  counted_as : (k i : ℕ) {y z : ℤ} → y ≡ z → cond (mark_at struck k i) (pos 0) y ≡ cond (mark_at struck k i) (pos 0) z
  counted_as k i e = ap (cond (mark_at struck k i) (pos 0)) e

  start_agrees : start_sum ticks struck J ≡ sum (J + 1) (counted_at struck 0 (λ i. c.x i 0))
  unfolding start_sum paid_step_in
  start_agrees =
      sum_cong (J + 1) (λ i below. counted_as 0 i (ap (part ticks) (sym (alone (row_start J i))) ∙ sym (h.x i 0 (omega arith))))
    where
      alone : (n : ℕ) → n + 0 ≡ n
      alone n = omega arith

  paid_agrees : (j : ℕ) → suc j ≤ J
      → step_sum ticks struck J 0 j (suc j) ≡ sum (J - suc j + 1) (counted_at struck (suc j) (λ i. c.x i (suc j)))
  unfolding step_sum paid_step_in
  paid_agrees j few =
      ap (λ n. sum n (counted_at struck (suc j) (step_of ticks J 0 j))) (count few)
      ∙ sum_cong (J - suc j + 1) (λ i below. counted_as (suc j) i (ap₂ ◌-ℤ◌
      (ap (part ticks) (second j (row_start J i)))
      (ap (part ticks) (zero-add (row_start J i + j)))
      ∙ sym (h.x i (suc j) (omega arith))))
    where
      count : suc j ≤ J → J - j ≡ J - suc j + 1
      count h = omega arith

      second : (j n : ℕ) → 0 + (n + j) + 1 ≡ n + suc j
      second j n = omega arith

  incurred_agrees : (j : ℕ)
      → step_sum ticks struck J (cells J) j (psi_index J j) ≡ sum (J - j) (counted_at struck (psi_index J j) (λ i. c.z i j))
  unfolding step_sum
  incurred_agrees j =
      sum_cong (J - j) (λ i below. counted_as (psi_index J j) i
      (ap (λ n. part ticks n -ℤ part ticks (cells J + (row_start J i + j))) (second (cells J) j (row_start J i))
      ∙ sym (h.z i j (omega arith))))
    where
      second : (m j n : ℕ) → m + (n + j) + 1 ≡ m + (n + (j + 1))
      second m j n = omega arith

  -- ---- ratios

  ratio_agrees : (d : ℕ) → d < J → ratio_of ticks J d ≡ c.y (J - d)
  ratio_agrees d below =
      let i : ℕ = J - d in
      let column : d ≡ J - i = omega arith in
      ap (λ j. part ticks (cells J + (row_start J i + j)) -ℤ part ticks (row_start J i + j)) column ∙ sym (h.y i (omega arith))

  pub ratios_agree : {ratios : List ℤ} → RatioSums weights ticks J ratios → (m : ℕ) → m ≤ J → part ratios m ≡ ratios_of_last c m
  ratios_agree sums m few =
      sums.is m few
      ∙ sum_cong m (λ d below. ap₂ (λ w y. pos w *ℤ y) (sym (h.g d (omega arith))) (ratio_agrees d (omega arith)))
      ∙ sym (ratios_by_development c m few)

  -- ---- right-hand side

  -- of the part k, which is a
  abbrev firsts_from : Part → ℕ → ℤ
  firsts_from a k = pos (prior_at weights k) *ℤ mean_at ticks k +ℤ pos (at weights k) *ℤ column_of ticks struck J a

  firsts_by : {s : ℕ} {prior : ℤ} (k : ℕ) → s ≡ prior_at weights k → prior ≡ mean_at ticks k → {y z : ℤ} → y ≡ z
      → pos (prior_at weights k) *ℤ mean_at ticks k +ℤ pos (at weights k) *ℤ y ≡ pos s *ℤ prior +ℤ pos (at weights k) *ℤ z
  firsts_by k weight mean e = ap₂ (λ a b. a +ℤ pos (at weights k) *ℤ b) (ap₂ (λ w m. pos w *ℤ m) (sym weight) (sym mean)) e

  phi : (j : ℕ) → j ≤ J → firsts_from (Φ j) j ≡ firsts_of c (Φ j)
  phi j few = sums j few ∙ sym (firsts_of_phi c j (at weights j) (mark_at struck j) few (λ i there. h.p i j there))
    where
      whole : (n : ℕ) → n ≡ n - 0
      whole n = omega arith

      sums : (j : ℕ) → j ≤ J → firsts_from (Φ j) j
          ≡ pos (c.s j) *ℤ c.prior_Φ j +ℤ pos (at weights j) *ℤ sum (J - j + 1) (counted_at struck j (λ i. c.x i j))
      sums zero few =
          firsts_by 0 (h.s 0 few) (h.prior_Φ 0 few)
          (start_agrees ∙ ap (λ n. sum (n + 1) (counted_at struck 0 (λ i. c.x i 0))) (whole J))
      sums (suc j) few = firsts_by (suc j) (h.s (suc j) few) (h.prior_Φ (suc j) few) (paid_agrees j few)

  psi : (j : ℕ) → j < J → firsts_from (Ψ j) (psi_index J j) ≡ firsts_of c (Ψ j)
  psi j below =
      firsts_by (psi_index J j) (h.t j below) (h.prior_Ψ j below) (incurred_agrees j)
      ∙ sym (firsts_of_psi c j (at weights (psi_index J j)) (mark_at struck (psi_index J j)) (λ i there. h.q i j there))

  firsts_agree : (k : ℕ) → k < n → firsts_from (kind k) k ≡ firsts_of c (kind k)
  firsts_agree =
      by_part J (λ k. firsts_from (kind k) k ≡ firsts_of c (kind k))
      (λ j few. subst (λ a. firsts_from a j ≡ firsts_of c a) (sym (part_by_index_phi J j few)) (phi j few))
      (λ j below. subst (λ a. firsts_from a (psi_index J j) ≡ firsts_of c a) (sym (part_by_index_psi J j)) (psi j below))

  pub target_agrees : {sums : List ℤ} (ratios : List ℤ) → ColumnSums ticks struck J sums
      → ((m : ℕ) → m ≤ J → part ratios m ≡ ratios_of_last c m)
      → (k : ℕ) → k < n → target_from weights ticks sums ratios J k ≡ right_hand_side c k
  unfolding target_from right_hand_side column_sum
  target_agrees ratios o shared k below =
      let own = ap (λ z. pos (prior_at weights k) *ℤ mean_at ticks k +ℤ pos (at weights k) *ℤ z) (o.filled.front k below) in
      let common = shared (rank_of (kind k)) (rank_below J k below) in
      ap₂ (λ y z. y +ℤ sign_of (kind k) *ℤ z) (own ∙ firsts_agree k below) common
      ∙ sym (target_by_rank c (kind k))
