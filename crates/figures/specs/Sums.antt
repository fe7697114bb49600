-- The contracts of the right-hand side, over the arrays of ticks and weights: cell c of the two blocks has the logarithm c.
use Rattle.std.specs.Prelude.{ℕ, zero, suc, ◌+◌, ◌*◌, ◌-◌, ◌^◌, ◌≤◌, ◌<◌, ◌≡◌, cond, List, ℤ, pos, nat_abs, ◌+ℤ◌, ◌-ℤ◌, ◌*ℤ◌}
use Rattle.integers.specs.Sum.{sum}
use Rattle.definitions.specs.Words.{part}
use Rattle.definitions.specs.Layout.{parts, psi_index, cells, row_start}
use Rattle.definitions.specs.Refusals.{year_limit}
use Rattle.definitions.specs.Matrix.{Part, Φ, Ψ, part_by_index}
use Rattle.laws.specs.Ranks.{rank_of, sign_of}
use Rattle.laws.specs.Filled.{Filled}
use Rattle.row_starts.specs.Starts.{Starts}
use Rattle.observations.specs.Arrays.{at, mean_at, prior_at, ratio_at, mark_at}

-- every logarithm is at most 2^26 in size
pub record Logs (logs : List ℤ) (last : ℕ) : Type 0 where
  pub few : last ≤ year_limit
  pub small : (c : ℕ) → c < 2 * cells last → nat_abs (part logs c) ≤ 2 ^ 26

-- with the starts of the rows, as the table has them
pub record OfRows (logs : List ℤ) (starts : List ℕ) (last : ℕ) : Type 0 where
  pub logs_small : Logs logs last
  pub starts_are : Starts last starts

-- ---- columns

-- year i's step from column j to the next; the cells of the block start at `block`
abbrev pub step_of : List ℤ → ℕ → ℕ → ℕ → ℕ → ℤ
step_of logs J block j i = part logs (block + (row_start J i + j) + 1) -ℤ part logs (block + (row_start J i + j))

-- what part k's observation of year i counts for
abbrev pub counted_at : List ℕ → ℕ → (ℕ → ℤ) → ℕ → ℤ
counted_at struck k o i = cond (mark_at struck k i) (pos 0) (o i)

unfoldable pub step_sum : List ℤ → List ℕ → ℕ → ℕ → ℕ → ℕ → ℤ
step_sum logs struck J block j k = sum (J - j) (counted_at struck k (step_of logs J block j))

unfoldable pub start_sum : List ℤ → List ℕ → ℕ → ℤ
start_sum logs struck J = sum (J + 1) (counted_at struck 0 (λ i. part logs (row_start J i)))

abbrev pub column_of : List ℤ → List ℕ → ℕ → Part → ℤ
column_of logs struck J (Φ zero) = start_sum logs struck J
column_of logs struck J (Φ (suc j)) = step_sum logs struck J 0 j (suc j)
column_of logs struck J (Ψ j) = step_sum logs struck J (cells J) j (psi_index J j)

unfoldable pub column_sum : List ℤ → List ℕ → ℕ → ℕ → ℤ
column_sum logs struck J k = column_of logs struck J (part_by_index J k)

pub record OfSteps (logs : List ℤ) (starts : List ℕ) (last block column k : ℕ) : Type 0 where
  pub of_rows : OfRows logs starts last
  pub in_blocks : block ≤ cells last
  pub before_last : column < last
  pub of_part : k < parts last

pub record OfColumn (logs : List ℤ) (starts : List ℕ) (last k : ℕ) : Type 0 where
  pub of_rows : OfRows logs starts last
  pub below : k < parts last

pub record ColumnSums (logs : List ℤ) (struck : List ℕ) (last : ℕ) (r : List ℤ) : Type 0 where
  pub filled : Filled 31 (parts last) (pos 0) (column_sum logs struck last) r

-- ---- ratios

-- the last cell of the accident year J − d
abbrev pub last_cell : ℕ → ℕ → ℕ
last_cell J d = row_start J (J - d) + d

abbrev pub ratio_of : List ℤ → ℕ → ℕ → ℤ
ratio_of logs J d = part logs (cells J + last_cell J d) -ℤ part logs (last_cell J d)

pub record OfRatios (weights : List ℕ) (logs : List ℤ) (starts : List ℕ) (last : ℕ) : Type 0 where
  pub of_rows : OfRows logs starts last
  pub weights_small : (d : ℕ) → d < last → ratio_at weights d ≤ 2 ^ 27

abbrev pub ratio_sum : List ℕ → List ℤ → ℕ → ℕ → ℤ
ratio_sum weights logs J n = sum n (λ d. pos (ratio_at weights d) *ℤ ratio_of logs J d)

pub record RatioSums (weights : List ℕ) (logs : List ℤ) (last : ℕ) (r : List ℤ) : Type 0 where
  pub is : (n : ℕ) → n ≤ last → part r n ≡ ratio_sum weights logs last n

-- ---- right-hand side

pub record OfTargets (weights : List ℕ) (ticks sums ratios : List ℤ) (last : ℕ) : Type 0 where
  pub few : last ≤ year_limit
  pub columns_small : (k : ℕ) → k < parts last → at weights k ≤ 2 ^ 28
  pub priors_small : (k : ℕ) → k < parts last → prior_at weights k ≤ 2 ^ 28
  pub means_small : (k : ℕ) → k < parts last → nat_abs (mean_at ticks k) ≤ 2 ^ 26
  pub sums_small : (k : ℕ) → k < parts last → nat_abs (part sums k) ≤ 2 ^ 31
  pub ratios_small : (n : ℕ) → n ≤ last → nat_abs (part ratios n) ≤ 2 ^ 58

pub record OfTarget (weights : List ℕ) (ticks sums ratios : List ℤ) (last k : ℕ) : Type 0 where
  pub of_targets : OfTargets weights ticks sums ratios last
  pub below : k < parts last

-- the prior and the part's own observations, and the ratios that it shares in
unfoldable pub target_from : List ℕ → List ℤ → List ℤ → List ℤ → ℕ → ℕ → ℤ
target_from weights ticks sums ratios J k =
    pos (prior_at weights k) *ℤ mean_at ticks k +ℤ pos (at weights k) *ℤ part sums k
    +ℤ sign_of (part_by_index J k) *ℤ part ratios (rank_of (part_by_index J k))

pub record Targets (weights : List ℕ) (ticks sums ratios : List ℤ) (last : ℕ) (r : List ℤ) : Type 0 where
  pub filled : Filled 31 (parts last) (pos 0) (target_from weights ticks sums ratios last) r
