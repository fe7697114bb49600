-- Texts of lines: how long they are, where each line stands, and that lines which end alike are told apart.
use Prim.Native.Nat.{ℕ, ◌≤◌}
use Rattle.std.specs.Prelude.{[], ◌∷◌}
use Rattle.definitions.specs.Layout.{Bytes}
use Rattle.definitions.specs.Text.{space, line_feed}

-- bytes from the space on, and then one line feed
pub data Line : Bytes → Type 0 where
  ended : Line (line_feed ∷ [])
  longer : (x : ℕ) {xs : Bytes} → space ≤ x → Line xs → Line (x ∷ xs)
