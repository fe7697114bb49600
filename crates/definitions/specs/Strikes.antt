-- Specification, "Struck steps": which steps there are, and what is left of a file without some of them.
use Rattle.std.specs.Prelude.{ℕ, ◌+◌, ◌-◌, ◌≤◌, ◌<◌, ◌≡◌, Bool, true, false, not, cond, ◌&&◌, ◌||◌, List, [], ◌∷◌, leb, ltb, eqb}
use Rattle.integers.specs.Summation.{total}
use Rattle.definitions.specs.Layout.{Bytes, last_year, closeness}
use Rattle.definitions.specs.Refusals.{Check, unless, ◌then◌, accepted}
use Rattle.definitions.specs.Observations.{Chain, chain_of}
use Rattle.definitions.specs.Matrix.{Figures, figures_from}

-- x_(i,j) (channel 0) or z_(i,j) (channel 1), of accident year i and development year j, its column
pub data Step : Type 0 where
  step : (channel i j : ℕ) → Step

abbrev pub same_step : Step → Step → Bool
same_step (step c i j) (step d k l) = eqb c d && (eqb i k && eqb j l)

-- how many steps a column has: x_(i,j) is there for i + j ≤ J, z_(i,j) for i + j < J
abbrev pub steps_in : ℕ → ℕ → ℕ → ℕ
steps_in J channel j = cond (eqb channel 0) (J - j + 1) (J - j)

-- of the channels 0 and 1
unfoldable pub is_step : ℕ → Step → Bool
is_step J (step channel i j) = cond (eqb channel 0) (leb (i + j) J) (ltb (i + j) J)

-- how many steps of a step's column are left
unfoldable pub left_beside : ℕ → (Step → Bool) → Step → ℕ
left_beside J struck (step channel i j) = total (steps_in J channel j) (λ k. cond (struck (step channel k j)) 0 1)

-- 14; 26: there is no such step, or it is struck already; 27: it is the last one left in its column
unfoldable pub strike_check : ℕ → (Step → Bool) → Step → Check
strike_check J struck (step channel i j) =
    unless (leb channel 1) 14 0
    then unless (is_step J (step channel i j) && not (struck (step channel i j))) 26 0
    then unless (not (eqb (left_beside J struck (step channel i j)) 1)) 27 0

-- Of each column a step is left: each part keeps an observation of its own.
pub record EachLeft (J : ℕ) (struck : Step → Bool) : Type 0 where
  pub paid : (j : ℕ) → j ≤ J → 1 ≤ left_beside J struck (step 0 0 j)
  pub incurred : (j : ℕ) → j < J → 1 ≤ left_beside J struck (step 1 0 j)

-- Observations without the struck ones. A struck step has the weight 0, and so no term in loss, own weight, matrix and right-hand side.
abbrev pub without : (Step → Bool) → Chain → Chain
without struck c = record {
  last = c.last;
  p = λ i j. cond (struck (step 0 i j)) 0 (c.p i j);
  q = λ i j. cond (struck (step 1 i j)) 0 (c.q i j);
  s = c.s;
  t = c.t;
  g = c.g;
  x = c.x;
  z = c.z;
  y = c.y;
  prior_Φ = c.prior_Φ;
  prior_Ψ = c.prior_Ψ;
}

-- ---- a file, and the steps that are struck out of it

pub record StruckFile : Type 0 where
  pub file : Bytes
  pub struck : List Step

abbrev pub is_among : List Step → Step → Bool
is_among [] t = false
is_among (s ∷ steps) t = is_among steps t || same_step s t

abbrev pub is_struck : StruckFile → Step → Bool
is_struck f = is_among f.struck

-- as it is opened
abbrev pub unstruck : Bytes → StruckFile
unstruck f = record { file = f; struck = [] }

abbrev pub chain_left : StruckFile → Chain
chain_left f = without (is_struck f) (chain_of f.file)

abbrev pub figures_left : StruckFile → Figures
figures_left f = figures_from (chain_left f) (closeness f.file)

-- an accepted file, and in each column a step that is left
pub record Admitted (f : StruckFile) : Type 0 where
  pub taken : accepted f.file ≡ true
  pub left : EachLeft (last_year f.file) (is_struck f)
