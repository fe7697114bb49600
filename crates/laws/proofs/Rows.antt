-- A row that is shown stands inside its file and is never empty: so an empty part is shown exactly where the row is refused.
use Rattle.std.specs.Prelude.{ℕ, ◌+◌, ◌≤◌, ◌≡◌, ◌↔◌, ◌≢◌, [], leb, length, drop}
use Rattle.std.proofs.Math.Path.{refl}
use Rattle.std.proofs.Common.{sym, ap, ◌∙◌, mul-le-mul_right, arith, length-take, length-drop}
use Rattle.std.proofs.Math.Dec.{leb→le}
use Rattle.definitions.specs.Layout.{Bytes, last_year, cells, file_length, row_at, row_length, row_bytes}
use Rattle.definitions.specs.Refusals.{Check, clear, refuses, unless, file_check, row_check, is_clear}
use Rattle.definitions.specs.Machine.{part_unless, row_part}
use Rattle.laws.proofs.Cells.{row_in_block, blocks_end}
use Rattle.laws.proofs.ClearChecks.{then_clear, unless_clear}
use Rattle.laws.specs.Accepted.{AcceptedFile}
use Rattle.laws.proofs.Accepted.{accepted_file}

-- a row is inside its block, and the block is the first or the second
row_ends : (J channel year : ℕ) → channel ≤ 1 → year ≤ J → row_at J channel year + row_length J year ≤ file_length J
row_ends J channel year few before =
    omega (arith, blocks_end J, mul-le-mul_right (cells J) few, row_in_block J year before)

module _ (f : Bytes) (channel year : ℕ) (shown : row_check f channel year ≡ clear) where
  checked : (channel ≤ 1) × (year ≤ last_year f) × AcceptedFile f
  unfolding row_check
  checked =
      let file = then_clear {a = file_check f} (ap is_clear shown) in
      let both = then_clear {a = unless (leb channel 1) 14 0} file.second in (
        leb→le channel 1 (unless_clear (leb channel 1) 14 0 both.first),
        leb→le year (last_year f) (unless_clear (leb year (last_year f)) 15 0 both.second),
        accepted_file f file.first,
      )

  pub row_inside : row_at (last_year f) channel year + row_length (last_year f) year ≤ length f
  row_inside = let c = checked in omega (arith, row_ends (last_year f) channel year c.0 c.1, c.2.size)

  -- at least one amount
  pub row_some : 8 ≤ row_length (last_year f) year
  row_some = let c = checked in omega (arith, c.1)

  pub row_shown : row_part f channel year ≡ row_bytes f channel year
  unfolding row_part
  row_shown = rw shown refl

  pub row_long : length (row_part f channel year) ≡ row_length (last_year f) year
  row_long =
      let J : ℕ = last_year f in
      let cut = length-take (row_length J year) (drop (row_at J channel year) f) in
      ap length row_shown ∙ omega (arith, cut, length-drop (row_at J channel year) f, row_inside)

pub empty_is_refused : (f : Bytes) (channel year : ℕ) → (row_part f channel year ≡ []) ↔ (row_check f channel year ≢ clear)
unfolding row_part
empty_is_refused f channel year = (
  (λ none shown. omega (arith, row_some f channel year shown, sym (row_long f channel year shown) ∙ ap length none)),
  by_check (row_check f channel year),
)
  where
    by_check : (c : Check) → (c ≢ clear) → part_unless c (row_bytes f channel year) ≡ []
    by_check clear refused = absurd (refused refl)
    by_check (refuses number place) refused = refl
