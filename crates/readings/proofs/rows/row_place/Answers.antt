-- `readings::rows::row_place` meets its contract: the row is found by its first cell, and ends inside its block. Assumes nothing.
use native.Mathlib.Omega.{arith}
use native.Mathlib.Nat.{le_trans, mul-le-mul_right}
use mathlib.Core.Path.{◌≡◌, ap, ap₂, ◌∙◌}
use Prim.Native.Nat.{ℕ, ◌+◌, ◌*◌, ◌-◌, ◌≤◌}
use lib.ListN.{length}
use Rattle.definitions.specs.Layout.{last_year, cells, row_start, amount_at, row_length}
use Rattle.laws.proofs.Cells.{row_in_block, blocks_end}
use Rattle.readings.proofs.rows.row_place.Goals as goal
use Rattle.readings.proofs.rows.row_place.Goals.{After-cells_of, After-row_start}

abbrev J : After-cells_of → ℕ
J c = last_year c.args.s.now

block : (c : After-cells_of) → c.cells_of.result ≡ cells (J c)
block c = c.cells_of.ensures ∙ ap cells c.last_year-last.ensures

start : (c : After-row_start) → c.row_start.result ≡ row_start (J (goal.at.overflow_add-cells c).After-cells_of) c.args.year
start c = c.row_start.ensures ∙ ap (λ n. row_start n c.args.year) c.last_year-last.ensures

-- a channel is 0 or 1, so what is before the block is no more than a block
before_block : (channel n : ℕ) → channel ≤ 1 → channel * n ≤ n
before_block channel n few = le_trans (mul-le-mul_right n few) (omega arith)

-- the row's first cell, and how many it has, as the code finds them
module _ (c : After-row_start) where
  abbrev cell_found : ℕ
  cell_found = c.args.channel * c.cells_of.result + c.row_start.result

  abbrev cells_found : ℕ
  cells_found = c.last_year-last.result + 1 - c.args.year

inside : (c : After-row_start) → amount_at (J (goal.at.overflow_add-cells c).After-cells_of) (cell_found c) + 8 * cells_found c ≤ length c.args.s.now
inside c =
    omega (
      arith,
      block (goal.at.overflow_add-cells c).After-cells_of,
      start c,
      c.last_year-last.ensures,
      before_block c.args.channel c.cells_of.result c.requires.channel,
      row_in_block (J (goal.at.overflow_add-cells c).After-cells_of) c.args.year c.requires.year,
      blocks_end (J (goal.at.overflow_add-cells c).After-cells_of),
      c.requires.file.whole,
    )

pub overflow_mul-cells : goal.overflow_mul-cells
overflow_mul-cells c =
    let one_block = before_block c.args.channel c.cells_of.result c.requires.channel in
    omega (arith, block c, one_block, blocks_end (J c), c.requires.file.whole)

pub overflow_add-cells : goal.overflow_add-cells
overflow_add-cells c = omega (arith, inside c)

pub overflow_mul-result : goal.overflow_mul-result
overflow_mul-result c = omega (arith, inside (goal.at.overflow_mul-result c).After-row_start)

pub overflow_add-result : goal.overflow_add-result
overflow_add-result c = omega (arith, inside (goal.at.overflow_add-result c).After-row_start, c.amounts_at.ensures, c.last_year-last.ensures)

pub returns : goal.returns
returns c =
    let after_cells_of = (goal.at.returns c).After-cells_of in
    let after_row_start = (goal.at.returns c).After-row_start in
    let first_Cell = c.args.channel * cells (J after_cells_of) + row_start (J after_cells_of) c.args.year in
    let cell : cell_found after_row_start ≡ first_Cell = ap₂ (λ n m. c.args.channel * n + m) (block after_cells_of) (start after_row_start) in
    record {
      start = omega (arith, cell, c.amounts_at.ensures, c.last_year-last.ensures);
      length = ap (λ n. row_length n c.args.year) c.last_year-last.ensures;
    }
