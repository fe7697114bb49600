-- The contracts of what a showing is made by.
use Rattle.std.specs.Prelude.{ℕ, ◌+◌, ◌*◌, ◌≤◌, ◌<◌, ◌≡◌, List, ℤ, pos, replicate, Option, MatchOption}
use Rattle.definitions.specs.Layout.{parts}
use Rattle.chain.specs.Residues.{RowFits, RowsFit}
use Rattle.holding.specs.State.{Held, Fits}
use Rattle.showing.specs.Shown.{matrix_shown}
use Rattle.showing.specs.Mirrored.{Mirrored}

-- ---- a row and its mirror, in an array v that has those before it

pub record OfRow (A v : List ℤ) (k : ℕ) : Type 0 where
  pub few : k < 31
  pub before : Mirrored A (31 * k) v

abbrev pub RowShown : List ℤ → ℕ → Option Unit → List ℤ → Type 0
RowShown A k r v = MatchOption r (¬ RowFits A k) (λ _. RowFits A k × Mirrored A (31 * (k + 1)) v)

pub record Zeros (v : List ℤ) : Type 0 where
  pub empty : v ≡ replicate 961 (pos 0)

-- ---- all rows; zeros where one does not fit

pub record OfMatrix (count : ℕ) (v : List ℤ) : Type 0 where
  pub few : count ≤ 31
  pub empty : v ≡ replicate 961 (pos 0)

abbrev pub MatrixShown : ℕ → List ℤ → Option Unit → List ℤ → Type 0
MatrixShown count A r v = MatchOption r (¬ RowsFit A count × Zeros v) (λ _. RowsFit A count × (v ≡ matrix_shown count A))

-- ---- all parts of an open file; zeros where none is open

pub record AllShown (s : Held) (n : ℕ) (v : List ℤ) : Type 0 where
  pub fits : Fits s
  pub all : n ≡ parts s.figures.last
  pub is : v ≡ matrix_shown n s.figures.matrix

abbrev pub PartsShown : Held → Option ℕ → List ℤ → Type 0
PartsShown s r v = MatchOption r (¬ Fits s × Zeros v) (λ n. AllShown s n v)
