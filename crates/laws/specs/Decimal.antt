-- Numbers as text: how many bytes they have, that they are read back whole, and that none of their bytes ends a line.
use Rattle.std.specs.Prelude.{ℕ, ◌/◌, ◌%◌, ◌≤◌, Bool, cond, [], ◌∷◌, ◌++◌, length}
use Rattle.definitions.specs.Layout.{Bytes}
use Rattle.definitions.specs.Text.{digit, decimal_from}

-- one digit, or those of n / 10 and the last
abbrev pub either : ℕ → ℕ → Bool → Bytes
either more n t = cond t (digit n ∷ []) (decimal_from more (n / 10) ++ digit (n % 10) ∷ [])

-- each byte of a text is at least this one
unfoldable pub From : ℕ → Bytes → Type 0
From least [] = Unit {0}
From least (x ∷ xs) = (least ≤ x) × From least xs

-- a text that begins with a digit, and has nothing lower
pub record Digits (t : Bytes) : Type 0 where
  pub some : 1 ≤ length t
  pub bytes : From (digit 0) t
