-- An array of 16 numbers that takes the sums of the first n numbers, one after another.
use Rattle.std.specs.Prelude.{ℕ, ◌≤◌, ◌≡◌, List, ℤ, length}
use Rattle.integers.specs.Sum.{sum}
use Rattle.definitions.specs.Words.{part}

-- the sums of the first n are there, and the last of them is at hand
pub record Summed (n : ℕ) (f : ℕ → ℤ) (now : ℤ) (sums : List ℤ) : Type 0 where
  pub long : length sums ≡ 16
  pub there : (i : ℕ) → i ≤ n → part sums i ≡ sum i f
  pub at_hand : now ≡ sum n f
