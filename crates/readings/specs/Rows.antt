-- The contract of a row's place.
use Rattle.std.specs.Prelude.{ℕ, ◌≡◌}
use Rattle.definitions.specs.Layout.{Bytes, last_year, row_at, row_length}
use Rattle.readings.specs.declared.rows.RowPlace.{RowPlace}

pub record Places (s : Bytes) (channel year : ℕ) (r : RowPlace) : Type 0 where
  pub start : r.start ≡ row_at (last_year s) channel year
  pub length : r.length ≡ row_length (last_year s) year
