-- Some elements of an array, by their places: n of them are those of f.
use Rattle.std.specs.Prelude.{ℕ, ◌<◌, ◌≡◌, List, get_or}

abbrev pub Run : {A : Type 0} → A → ℕ → (ℕ → ℕ) → (ℕ → A) → List A → Type 0
Run d n place f v = (i : ℕ) → i < n → get_or v (place i) d ≡ f i
