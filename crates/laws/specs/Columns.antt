-- Where the observations of a column have one weight, as those of a file have, struck ones aside: what its own weight is.
use Rattle.std.specs.Prelude.{ℕ, ◌+◌, ◌*◌, ◌-◌, ◌≡◌, Bool}
use Rattle.definitions.specs.Observations.{Chain}
use Rattle.definitions.specs.Matrix.{Φ, own_of}
use Rattle.laws.specs.StruckSteps.{left_of}

-- the prior's, and the weight w as often as steps are left
abbrev pub OwnOfPhi : Chain → ℕ → ℕ → (ℕ → Bool) → Type 0
OwnOfPhi c j w struck = own_of c (Φ j) ≡ c.s j + left_of (c.last - j + 1) struck * w
