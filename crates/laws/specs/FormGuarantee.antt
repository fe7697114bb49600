-- How far from least a loss of `Quadratic` is at a mean of small residues.
use Rattle.std.specs.Prelude.{ℕ, ◌*◌, ℤ, pos}
use Rattle.integers.specs.Sum.{total}
use Rattle.laws.specs.Quadratic.{Form}

module _ (q : Form) (e : ℕ) where
  -- m²·e²·ΣD
  abbrev pub form_slack : ℕ → ℤ
  form_slack m = pos (m * m * (e * e * total q.parts q.own))
