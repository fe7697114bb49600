-- The sizes of an accepted file's observations, each drawn from the limits of the file's own fields, an amount's by its logarithm, and from
-- nothing wider. So its chain is bounded.
use Prim.Native.Nat.{ℕ, zero, suc, ◌+◌, ◌*◌, ◌-◌, ◌≤◌, ◌<◌}
use Rattle.std.proofs.Common.{le_trans, arith}
use Rattle.std.specs.Prelude.{pos, nat_abs, ◌-ℤ◌}
use Rattle.integers.specs.Linear.{linear}
use Rattle.integers.specs.Sum.{sum}
use Rattle.integers.specs.Total.{total_bound, sum_size}
use Rattle.definitions.specs.Layout.{Bytes, last_year, psi_index, cells, row_start, paid, incurred}
use Rattle.definitions.specs.Logarithm.{logarithm}
use Rattle.definitions.specs.Refusals.{amount_limit}
use Rattle.definitions.specs.Observations.{chain_of, paid_step, incurred_step, last_ratio}
use Rattle.laws.proofs.Cells.{cell_below}
use Rattle.laws.specs.Accepted.{AcceptedFile, Within}
use Rattle.laws.proofs.LogarithmBound.{logarithm_at_most}
use Rattle.laws.specs.Chains.{observed_limit, Bounded}
use Rattle.laws.proofs.FileWeights.{part_to, prior_to, g_to}

-- ---- logarithms of amounts

pub logarithm_limit : (a : ℕ) → Within 1 amount_limit a → logarithm a ≤ observed_limit
logarithm_limit a range = logarithm_at_most a 44 range.from range.to (omega arith)

-- the difference of two numbers of one limit is within the limit
difference_limit : {a b m : ℕ} → a ≤ m → b ≤ m → nat_abs (pos a -ℤ pos b) ≤ m
difference_limit = simp linear (omega arith)

module _ (f : Bytes) (h : AcceptedFile f) where
  abbrev J : ℕ
  J = last_year f

  pub paid_within : (i j : ℕ) → i + j ≤ J → Within 1 amount_limit (paid f i j)
  paid_within i j below = h.amounts (row_start J i + j) (omega (arith, cell_below J i j below))

  pub incurred_within : (i j : ℕ) → i + j ≤ J → Within 1 amount_limit (incurred f i j)
  incurred_within i j below = h.amounts (cells J + (row_start J i + j)) (omega (arith, cell_below J i j below))

  paid_log : (i j : ℕ) → i + j ≤ J → logarithm (paid f i j) ≤ observed_limit
  paid_log i j below = logarithm_limit (paid f i j) (paid_within i j below)

  incurred_log : (i j : ℕ) → i + j ≤ J → logarithm (incurred f i j) ≤ observed_limit
  incurred_log i j below = logarithm_limit (incurred f i j) (incurred_within i j below)

  -- ---- observations

  pub x_limit : (i j : ℕ) → i + j ≤ J → nat_abs (paid_step f i j) ≤ observed_limit
  unfolding paid_step
  x_limit i zero below = paid_log i 0 below
  x_limit i (suc j) below = difference_limit (paid_log i (suc j) below) (paid_log i j (omega arith))

  pub z_limit : (i j : ℕ) → i + j < J → nat_abs (incurred_step f i j) ≤ observed_limit
  unfolding incurred_step
  z_limit i j below = difference_limit (incurred_log i (j + 1) (omega arith)) (incurred_log i j (omega arith))

  pub y_limit : (i : ℕ) → i ≤ J → nat_abs (last_ratio f i) ≤ observed_limit
  unfolding last_ratio
  y_limit i below = difference_limit (incurred_log i (J - i) (omega arith)) (paid_log i (J - i) (omega arith))

  -- the observations of a column, added up
  pub x_sum_fits : (j : ℕ) → j ≤ J → nat_abs (sum (J - j + 1) (λ i. paid_step f i j)) ≤ 16 * observed_limit
  x_sum_fits j below =
      le_trans (sum_size (J - j + 1) (λ i. paid_step f i j))
      (omega (arith, h.years.to, total_bound (J - j + 1) observed_limit (λ i i-below. x_limit i j (omega arith))))

  pub z_sum_fits : (j : ℕ) → j < J → nat_abs (sum (J - j) (λ i. incurred_step f i j)) ≤ 15 * observed_limit
  z_sum_fits j below =
      le_trans (sum_size (J - j) (λ i. incurred_step f i j))
      (omega (arith, h.years.to, total_bound (J - j) observed_limit (λ i i-below. z_limit i j (omega arith))))

  -- ---- its chain

  pub file_bounded : Bounded (chain_of f)
  file_bounded = record {
    years = h.years.to;
    p_to = λ i j there. part_to f h j (omega arith);
    q_to = λ i j there. part_to f h (psi_index J j) (omega arith);
    s_to = λ j below. prior_to f h j (omega arith);
    t_to = λ j below. prior_to f h (psi_index J j) (omega arith);
    g_to = g_to f h;
    x_to = x_limit;
    z_to = z_limit;
    y_to = y_limit;
    prior_Φ_to = λ j below. h.prior_means_lem j (omega arith);
    prior_Ψ_to = λ j below. h.prior_means_lem (psi_index J j) (omega arith);
  }
