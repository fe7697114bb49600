-- The system that a working mean belongs to.
use Rattle.std.specs.Prelude.{ℕ, List, ℤ, ◌-ℤ◌}
use Rattle.definitions.specs.Words.{tab_from, part}
use Rattle.definitions.specs.Layout.{parts}
use Rattle.definitions.specs.Matrix.{Figures}
use Rattle.chain.specs.Arrays.{row_product, system}
use Rattle.steps.specs.declared.Working.{Working}

-- The right-hand side of which a working mean's residues speak: A·mean − residues.
abbrev pub held_right_hand : ℕ → List ℤ → Working → List ℤ
held_right_hand last A w = tab_from 0 (parts last) (λ k. row_product A k (parts last) w.mean -ℤ part w.residues k)

-- A step has the matrix, a mean and its residues, and so the system that they belong to.
unfoldable pub held : ℕ → List ℤ → Working → Figures
held last A w = system last A (held_right_hand last A w)
