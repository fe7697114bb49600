-- The cells of a block: document 02's formula and table give the start of each row, and every row is inside its block.
use Rattle.std.specs.Prelude.{ℕ, zero, suc, ◌+◌, ◌*◌, ◌-◌, ◌/◌, ◌%◌, ◌≤◌, ◌<◌, ◌≡◌, refl, Bool, true, false, leb}
use Rattle.std.proofs.Common.{sym, subst, ap, ap₂, ◌∙◌, mul-le-mul, arith, le-leb}
use Rattle.integers.specs.Sum.{total}
use Rattle.definitions.specs.Layout.{cells, row_start, amount_at, file_length}
use Rattle.definitions.specs.RowStarts.{cells_before, start_entry, table_entry}
use Rattle.definitions.specs.Refusals.{year_limit}

-- ---- rows: year i has J + 1 − i cells

pub row_start_is : (J i : ℕ) → i ≤ J + 1 → 2 * row_start J i + i * i ≡ i * (2 * J + 3)
unfolding row_start total
row_start_is J zero h = omega arith
row_start_is J (suc i) h = omega (arith, row_start_is J i (omega arith))

-- year i's column j is a cell of its block where i + j ≤ J
pub cell_below : (J i j : ℕ) → i + j ≤ J → row_start J i + j < cells J
cell_below J i j h =
    let d : ℕ = J - (i + j) in
    let whole : J ≡ i + j + d = omega arith in
    let start : 2 * row_start J i + i * i ≡ i * (2 * (i + j + d) + 3) =
    subst (λ n. 2 * row_start J i + i * i ≡ i * (2 * n + 3)) whole (row_start_is J i (omega arith)) in
    let enough : 2 * (row_start J i + j + 1) ≤ (J + 1) * (J + 2) =
    subst (λ n. 2 * (row_start J i + j + 1) ≤ (n + 1) * (n + 2)) (sym whole) (omega arith) in
    omega arith

pub row_in_block : (J i : ℕ) → i ≤ J → row_start J i + (J + 1 - i) ≤ cells J
row_in_block J i h = omega (arith, cell_below J i (J - i) (omega arith))

pub cells_few : (J : ℕ) → J ≤ year_limit → cells J ≤ 136
cells_few J h = omega (arith, mul-le-mul {n₁ = J + 1} {m₁ = J + 2} {n₂ = 16} {m₂ = 17} (omega arith) (omega arith))

-- the two blocks end the file
pub blocks_end : (J : ℕ) → amount_at J (2 * cells J) ≡ file_length J
blocks_end J = omega (arith, row_start_is J (J + 1) (omega arith))

-- ---- the table of row starts

-- the formula counts the cells of the rows before
pub cells_before_lem : (J year : ℕ) → year ≤ J + 1 → cells_before J year ≡ row_start J year
cells_before_lem J zero h = omega (arith, row_start_is J 0 h)
cells_before_lem J (suc i) h =
    let before : suc i * (suc i - 1) ≡ suc i * i = ap (λ n. suc i * n) (omega arith) in
    omega (arith, before, row_start_is J (suc i) h)

-- entry 16·J + year is that of J and the year
pub entry_at : (J year : ℕ) → year ≤ 15 → table_entry (16 * J + year) ≡ start_entry J year
entry_at J year few =
    let quotient : (16 * J + year) / 16 ≡ J = omega arith in
    let rest : (16 * J + year) % 16 ≡ year = omega arith in
    ap₂ start_entry quotient rest

-- and where the year does not exceed J, it is the start of its row
pub entry_starts : (J year : ℕ) → year ≤ J → year ≤ 15 → table_entry (16 * J + year) ≡ row_start J year
entry_starts J year before few = entry_at J year few ∙ rw (le-leb year J before) (cells_before_lem J year (omega arith))

-- none is more than 15 rows of 16 cells
pub entry_few : (k : ℕ) → k < 256 → table_entry k ≤ 240
entry_few k below = by_test (leb (k % 16) (k / 16)) refl
  where
    by_test : (b : Bool) → leb (k % 16) (k / 16) ≡ b → table_entry k ≤ 240
    by_test true e = rw e (omega (arith, mul-le-mul {n₁ = k % 16} {m₁ = k / 16 + 1} {n₂ = 15} {m₂ = 16} (omega arith) (omega arith)))
    by_test false e = rw e (omega arith)
