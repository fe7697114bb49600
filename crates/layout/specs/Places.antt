-- Every field of a file that has the length of its J ends inside it.
use Rattle.std.specs.Prelude.{ℕ, ◌+◌, ◌*◌, ◌≤◌, ◌<◌, length}
use Rattle.std.proofs.Common.{arith}
use Rattle.definitions.specs.Layout.{Bytes, last_year, parts, cells, prior_mean_at, amount_at}
use Rattle.laws.proofs.Cells.{blocks_end}
use Rattle.layout.specs.Checks.{Whole}

module _ (s : Bytes) (w : Whole s) where
  pub prior_inside : (k : ℕ) → k < parts (last_year s) → prior_mean_at (last_year s) k + 12 ≤ length s
  prior_inside k h = omega (arith, w.whole)

  pub amount_inside : (c : ℕ) → c < 2 * cells (last_year s) → amount_at (last_year s) c + 8 ≤ length s
  amount_inside c h = omega (arith, w.whole, blocks_end (last_year s))
