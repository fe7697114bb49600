-- Three words that the other files are written in.
use Rattle.std.specs.Prelude.{ℕ, zero, suc, Bool, ◌&&◌, List, [], ◌∷◌, ℤ, pos, get_or, leb}

-- lo ≤ v ≤ hi
abbrev pub within : ℕ → ℕ → ℕ → Bool
within lo hi v = leb lo v && leb v hi

-- the list f i, f (i + 1), …, n elements long
unfoldable pub tab_from : {A : Type 0} → ℕ → ℕ → (ℕ → A) → List A
tab_from i zero f = []
tab_from i (suc n) f = f i ∷ tab_from (suc i) n f

-- element k of a list of whole numbers, 0 behind its end: a list as a vector
abbrev pub part : List ℤ → ℕ → ℤ
part l k = get_or l k (pos 0)
