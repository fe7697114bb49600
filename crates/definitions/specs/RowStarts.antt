-- Specification, "The table of row starts" (document 02): 256 numbers, for J = 0..15 and year 0..15.
use Rattle.std.specs.Prelude.{ℕ, ◌+◌, ◌*◌, ◌-◌, ◌/◌, ◌%◌, cond, leb}

-- the cells of a block before the row of a year
abbrev pub cells_before : ℕ → ℕ → ℕ
cells_before J year = year * (J + 1) - year * (year - 1) / 2

-- the entry of J and a year: 0 where the year exceeds J
abbrev pub start_entry : ℕ → ℕ → ℕ
start_entry J year = cond (leb year J) (cells_before J year) 0

-- entry k of the table: 16·J + year is the one of J and the year
abbrev pub table_entry : ℕ → ℕ
table_entry k = start_entry (k / 16) (k % 16)
