-- The contract of writing residues.
use Rattle.std.specs.Prelude.{ℕ, ◌≤◌, length}
use Rattle.definitions.specs.Layout.{Bytes}
use Rattle.definitions.specs.Refusals.{year_limit}
use Rattle.definitions.specs.Residues.{residues_length}

-- a buffer with room for the residues of so many years
pub record OfBuffer (last : ℕ) (b : Bytes) : Type 0 where
  pub few : last ≤ year_limit
  pub room : residues_length last ≤ length b
