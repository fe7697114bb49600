-- `readings::rows::shown_row` meets its contract: the two blocks end the file, and a row ends inside its block. Assumes nothing.
use native.Mathlib.Omega.{arith}
use mathlib.Core.Path.{◌≡◌, refl, ap, ◌∙◌}
use Prim.Native.Nat.{ℕ, ◌+◌, ◌*◌, ◌-◌, ◌≤◌}
use lib.ListN.{length, length-take, length-drop}
use lib.Dec.{eqb}
use Rattle.definitions.specs.Layout.{last_year, cells, row_start, amount_at}
use Rattle.laws.proofs.Cells.{row_in_block, blocks_end}
use Rattle.readings.proofs.Parts.{row_bytes_lem}
use Rattle.readings.proofs.rows.shown_row.Goals as goal
use Rattle.readings.proofs.rows.shown_row.Goals.{After-cells_of, After-row_start-first}

abbrev J : After-cells_of → ℕ
J c = last_year c.args.s.now

block : (c : After-cells_of) → c.cells_of.result ≡ cells (J c)
block c = c.cells_of.ensures ∙ ap cells c.last_year-last.ensures

start : (c : After-row_start-first) → c.row_start-first.result ≡ row_start (J (goal.at.overflow_mul-first c).After-cells_of) c.args.year
start c = c.row_start-first.ensures ∙ ap (λ n. row_start n c.args.year) c.last_year-last.ensures

blocks : (c : After-cells_of)
    → c.amounts_at-start.result + 8 * c.cells_of.result + 8 * c.cells_of.result ≡ length c.args.s.now
blocks c = omega (arith, block c, blocks_end (J c), c.requires.file.whole)

inside : (c : After-row_start-first)
    → let year = c.args.year in
    c.row_start-first.result + (c.last_year-last.result + 1 - year) ≤ c.cells_of.result
inside c =
    omega (
      arith,
      block (goal.at.overflow_mul-first c).After-cells_of,
      start c,
      row_in_block
          (J (goal.at.overflow_mul-first c).After-cells_of) c.args.year c.requires.year,
    )

pub overflow_mul-middle : goal.overflow_mul-middle
overflow_mul-middle c = omega (arith, blocks c)

pub overflow_add-middle : goal.overflow_add-middle
overflow_add-middle c = omega (arith, blocks c)

pub overflow_mul-first : goal.overflow_mul-first
overflow_mul-first c = omega (arith, blocks (goal.at.overflow_mul-first c).After-cells_of, inside c)

pub overflow_add-end-2 : goal.overflow_add-end-2
overflow_add-end-2 c = omega (arith, blocks (goal.at.overflow_add-end-2 c).After-cells_of, inside c)

pub slice_bounds-part-count-2 : goal.slice_bounds-part-count-2
slice_bounds-part-count-2 c = omega (arith, blocks (goal.at.slice_bounds-part-count-2 c).After-cells_of)

pub part-requires : goal.part-requires
part-requires c =
    let after_row_start_first = (goal.at.part-requires c).After-row_start-first in
    let two = blocks (goal.at.part-requires c).After-cells_of in (
      omega arith,
      simp (length-take, length-drop) (omega (arith, two, inside after_row_start_first)),
      simp (length-take, length-drop)
          (omega (arith, two, inside after_row_start_first)),
    )

pub returns : goal.returns
returns c =
    let after_cells_of = (goal.at.returns c).After-cells_of in
    let after_row_start_first = (goal.at.returns c).After-row_start-first in
    let s = c.args.s.now in
    let first : 8 * c.row_start-first.result ≡ 8 * row_start (J after_cells_of) c.args.year = ap (λ n. 8 * n) (start after_row_start_first) in
    let end :
    8 * c.row_start-first.result + 8 * (c.last_year-last.result + 1 - c.args.year) ≡ 8 * c.row_start-first.result + 8 * (J after_cells_of + 1 - c.args.year)
    = ap (λ n. 8 * c.row_start-first.result + 8 * (n + 1 - c.args.year)) c.last_year-last.ensures in
    let middle : c.amounts_at-start.result + 8 * c.cells_of.result ≡ amount_at (J after_cells_of) (cells (J after_cells_of)) =
    omega (arith, block after_cells_of) in
    let at = c.amounts_at-start.result in
    let m = at + 8 * c.cells_of.result - at in
    let n = length s - (at + 8 * c.cells_of.result) in
    let paid : 8 * c.row_start-first.result + 8 * (c.last_year-last.result + 1 - c.args.year) ≤ m = omega (arith, inside after_row_start_first) in
    let incurred : 8 * c.row_start-first.result + 8 * (c.last_year-last.result + 1 - c.args.year) ≤ n =
    omega (arith, blocks after_cells_of, inside after_row_start_first) in
    c.part.ensures
    ∙ row_bytes_lem s c.args.channel c.args.year c.requires _ _ at _ m n first end paid incurred (omega arith) middle (eqb c.args.channel 0) refl
