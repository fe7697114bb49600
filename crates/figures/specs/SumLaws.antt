-- What the sums over years go by.
use Prim.Native.Nat.{ℕ, suc, ◌+◌, ◌*◌, ◌-◌, ◌^◌, ◌≤◌, ◌<◌, zero-le}
use Rattle.std.specs.Prelude.{◌≡◌, Bool, true, false, cond, ◌≢◌, List, [], ◌∷◌, pos, ◌+ℤ◌, ◌-ℤ◌, ◌*ℤ◌}
use Rattle.std.proofs.Common.{sym, ◌∙◌, le_refl, le_trans, lt_of_not-le}
use Rattle.std.proofs.Math.Path.{ap, ap₂}
use native.Mathlib.Omega.{arith}
use Rattle.std.proofs.Math.Decide.{ℕ_discrete, dec_le}
use Rattle.std.proofs.Math.IntN.{ℤ, nat_abs}
use Rattle.integers.specs.Ring.{*ℤ_idl}
use Rattle.integers.specs.Solver.{ring, ◌⊠◌, ⊖◌, num, ◌≐◌}
use Rattle.integers.specs.Size.{nat_abs--, nat_abs-*-≤}
use Rattle.integers.specs.Sum.{sum}
use Rattle.integers.specs.Total.{total_bound, sum_size}
use Rattle.definitions.specs.Words.{part}
use Rattle.definitions.specs.Layout.{cells, row_start}
use Rattle.definitions.specs.Matrix.{Φ, part_by_index}
use Rattle.laws.proofs.Cells.{cell_below}
use Rattle.laws.specs.Ranks.{rank_of, sign_of}
use Rattle.laws.proofs.Ranks.{part_by_index_phi, part_psi}
use Rattle.row_starts.specs.Starts.{starts_at}
use Rattle.observations.specs.Arrays.{at, mean_at, prior_at, ratio_at, mark_at}
use Rattle.figures.specs.Sums.{Logs, OfRows, step_of, counted_at, step_sum, start_sum, column_of, column_sum, target_from, last_cell, ratio_of, ratio_sum}

-- the start of a row, as it is read
pub row_at : {logs : List ℤ} {starts : List ℕ} {last : ℕ} → OfRows logs starts last → (i : ℕ) → i ≤ last → at starts i ≡ row_start last i
row_at h i few = starts_at h.starts_are i few h.logs_small.few

-- the difference of two logarithms
pub difference_small : (logs : List ℤ) (last c d : ℕ) → Logs logs last → c < 2 * cells last → d < 2 * cells last
    → nat_abs (part logs c -ℤ part logs d) ≤ 2 ^ 27
difference_small logs last c d h c-below d-below =
    le_trans (nat_abs-- (part logs c) (part logs d)) (omega (arith, h.small c c-below, h.small d d-below))

-- sums of at most 16 numbers of at most 2^58
pub sum_small : (n : ℕ) (f : ℕ → ℤ) → n ≤ 16 → ((i : ℕ) → i < n → nat_abs (f i) ≤ 2 ^ 58) → nat_abs (sum n f) < 2 ^ 63
sum_small n f few small = omega (arith, sum_size n f, total_bound n (2 ^ 58) {f = λ i. nat_abs (f i)} small)

-- ---- the last cells of the accident years

pub last_cell_below : (J d : ℕ) → d ≤ J → last_cell J d < cells J
last_cell_below J d below = cell_below J (J - d) d (omega arith)

-- ---- the ratios of the accident years

pub ratio_of_small : (logs : List ℤ) (J d : ℕ) → Logs logs J → d ≤ J → nat_abs (ratio_of logs J d) ≤ 2 ^ 27
ratio_of_small logs J d h few =
    let below = last_cell_below J d few in
    difference_small logs J (cells J + last_cell J d) (last_cell J d) h (omega arith) (omega arith)

pub ratio_sum_small : (weights : List ℕ) (logs : List ℤ) (J n : ℕ) → Logs logs J → ((d : ℕ) → d < J → ratio_at weights d ≤ 2 ^ 27) → n ≤ J
    → nat_abs (ratio_sum weights logs J n) ≤ 2 ^ 58
ratio_sum_small weights logs J n h small few = omega (arith, h.few, sum_size n term, total_bound n (2 ^ 54) each)
  where
    term : ℕ → ℤ
    term d = pos (ratio_at weights d) *ℤ ratio_of logs J d

    each : (d : ℕ) → d < n → nat_abs (term d) ≤ 2 ^ 54
    each d below =
        nat_abs-*-≤ (pos (ratio_at weights d)) (ratio_of logs J d) (small d (omega arith)) (ratio_of_small logs J d h (omega arith))

-- ---- a part's own observations, by its index

module _ (logs : List ℤ) (struck : List ℕ) (J k : ℕ) where
  pub column_start : k ≡ 0 → column_sum logs struck J k ≡ start_sum logs struck J
  unfolding column_sum
  column_start e = ap (λ n. column_of logs struck J (part_by_index J n)) e ∙ ap (column_of logs struck J) (part_by_index_phi J 0 zero-le)

  pub column_phi : k ≢ 0 → k ≤ J → column_sum logs struck J k ≡ step_sum logs struck J 0 (k - 1) k
  unfolding column_sum
  column_phi some below =
      let before : k ≡ suc (k - 1) = omega arith in
      ap (column_of logs struck J) (part_by_index_phi J k below ∙ ap Φ before) ∙ ap (step_sum logs struck J 0 (k - 1)) (sym before)

  pub column_psi : J < k → column_sum logs struck J k ≡ step_sum logs struck J (cells J) (k - J - 1) k
  unfolding column_sum
  column_psi past =
      ap (column_of logs struck J) (part_psi J k past) ∙ ap₂ (step_sum logs struck J (cells J)) (column past) (back past)
    where
      column : J < k → k - (J + 1) ≡ k - J - 1
      column h = omega arith

      back : J < k → J + 1 + (k - (J + 1)) ≡ k
      back h = omega arith

-- ---- a step's two cells are in the blocks

pub step_inside : (J block j i : ℕ) → block ≤ cells J → i < J - j → block + (row_start J i + j) + 1 < 2 * cells J
step_inside J block j i in_blocks below = omega (arith, cell_below J i (j + 1) (omega arith))

pub step_small : (logs : List ℤ) (J block j i : ℕ) → Logs logs J → block ≤ cells J → i < J - j
    → nat_abs (step_of logs J block j i) ≤ 2 ^ 27
step_small logs J block j i h in_blocks below =
    let inside = step_inside J block j i in_blocks below in
    let c : ℕ = block + (row_start J i + j) in
    difference_small logs J (c + 1) c h inside (omega arith)

-- ---- sizes

pub counted_small : (struck : List ℕ) (k : ℕ) (o : ℕ → ℤ) (i : ℕ) {n : ℕ} → nat_abs (o i) ≤ n → nat_abs (counted_at struck k o i) ≤ n
counted_small struck k o i {n} small = by_mark (mark_at struck k i)
  where
    by_mark : (t : Bool) → nat_abs (cond t (pos 0) (o i)) ≤ n
    by_mark true = zero-le
    by_mark false = small

module _ (logs : List ℤ) (struck : List ℕ) (J : ℕ) (h : Logs logs J) where
  step_sum_small : (block j k : ℕ) → block ≤ cells J → nat_abs (step_sum logs struck J block j k) ≤ 2 ^ 31
  unfolding step_sum
  step_sum_small block j k in_blocks =
      let o : ℕ → ℤ = counted_at struck k (step_of logs J block j) in
      let each : (i : ℕ) → i < J - j → nat_abs (o i) ≤ 2 ^ 27 =
      λ i below. counted_small struck k (step_of logs J block j) i (step_small logs J block j i h in_blocks below) in
      omega (arith, h.few, sum_size (J - j) o, total_bound (J - j) (2 ^ 27) each)

  start_sum_small : nat_abs (start_sum logs struck J) ≤ 2 ^ 31
  unfolding start_sum
  start_sum_small =
      let o : ℕ → ℤ = counted_at struck 0 (λ i. part logs (row_start J i)) in
      let small : (i : ℕ) → i < J + 1 → nat_abs (o i) ≤ 2 ^ 26 =
      λ i below. counted_small struck 0 (λ i. part logs (row_start J i)) i
      (h.small (row_start J i) (omega (arith, cell_below J i 0 (omega arith)))) in
      omega (arith, h.few, sum_size (J + 1) o, total_bound (J + 1) (2 ^ 26) small)

  pub column_sum_small : (k : ℕ) → nat_abs (column_sum logs struck J k) ≤ 2 ^ 31
  column_sum_small k = by_kind (ℕ_discrete k 0) (dec_le k J)
    where
      by_kind : Dec (k ≡ 0) → Dec (k ≤ J) → nat_abs (column_sum logs struck J k) ≤ 2 ^ 31
      by_kind (yes none) side = rw (column_start logs struck J k none) start_sum_small
      by_kind (no some) (yes few) = rw (column_phi logs struck J k some few) (step_sum_small 0 (k - 1) k zero-le)
      by_kind (no some) (no above) =
          rw (column_psi logs struck J k (lt_of_not-le above)) (step_sum_small (cells J) (k - J - 1) k (le_refl (cells J)))

-- ---- the right-hand side of a Φ and of a Ψ

module _ (weights : List ℕ) (ticks sums ratios : List ℤ) (J k : ℕ) where
  -- the part's prior and its own observations
  abbrev pub own_side : ℤ
  own_side = pos (prior_at weights k) *ℤ mean_at ticks k +ℤ pos (at weights k) *ℤ part sums k

  -- the ratios that it shares in
  abbrev pub shared : ℤ
  shared = part ratios (rank_of (part_by_index J k))

  pub target_phi : k ≤ J → own_side +ℤ shared ≡ target_from weights ticks sums ratios J k
  unfolding target_from
  target_phi few = ap (λ z. own_side +ℤ z) (sym (ap (λ a. sign_of a *ℤ shared) (part_by_index_phi J k few) ∙ *ℤ_idl shared))

  pub target_psi : J < k → own_side -ℤ shared ≡ target_from weights ticks sums ratios J k
  unfolding target_from
  target_psi past =
      ap (λ z. own_side +ℤ z)
      (sym (ap (λ a. sign_of a *ℤ shared) (part_psi J k past) ∙ ring (shared ∷ []) (λ z. ⊖ num 1 ⊠ z ≐ ⊖ z) tt))
