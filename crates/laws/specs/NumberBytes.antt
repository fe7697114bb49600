-- Numbers as bytes: how many they are, that they are read back whole, and a list of numbers written into a buffer one after another. The
-- width of a number is left open: a part of a record has 4 bytes, a residue 8.
use Prim.Native.Nat.{ℕ, ◌+◌}
use Rattle.std.specs.Prelude.{◌≡◌}
use mathlib.Core.List.{◌++◌}
use Rattle.std.proofs.Math.ListN.{take, drop}
use Rattle.definitions.specs.Layout.{Bytes, bytes_of}

-- so many bytes of the number v at the place `at` of a buffer b, in place of those that were there
pub record Put (width : ℕ) (b : Bytes) (at v : ℕ) (r : Bytes) : Type 0 where
  pub is : r ≡ take at b ++ bytes_of width v ++ drop (at + width) b
