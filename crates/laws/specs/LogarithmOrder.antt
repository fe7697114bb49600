-- The logarithm grows with the amount: of two amounts the larger has no smaller logarithm.
use Rattle.std.specs.Prelude.{ℕ, ◌≤◌, ◌<◌, ◌≡◌, ◌⊎◌}

-- (l, y) stands no higher than (m, z): by the bits so far, and where those are the same by y
abbrev pub Behind : ℕ → ℕ → ℕ → ℕ → Type 0
Behind l y m z = (l < m) ⊎ ((l ≡ m) × (y ≤ z))
