-- An array that is filled from the front: below k it has its numbers, from k on it is still empty.
use Rattle.std.specs.Prelude.{ℕ, ◌≤◌, ◌<◌, ◌≡◌, List, length, get_or}

pub record Filled {A : Type 0} (size k : ℕ) (empty : A) (f : ℕ → A) (v : List A) : Type 0 where
  pub long : length v ≡ size
  pub front : (i : ℕ) → i < k → get_or v i empty ≡ f i
  pub rest : (i : ℕ) → k ≤ i → get_or v i empty ≡ empty
