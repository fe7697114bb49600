-- What a session keeps of an open file: its figures, the numbers of the file that they are made of, each rounded once, and the marks of its
-- struck steps.
use Rattle.std.specs.Prelude.{ℕ, zero, suc, ◌+◌, ◌*◌, ◌-◌, Bool, false, cond, ◌||◌, List, [], ℤ, ◌-ℤ◌, get_or, eqb}
use Rattle.definitions.specs.Words.{tab_from, part}
use Rattle.definitions.specs.Weight.{weight}
use Rattle.definitions.specs.Layout.{Bytes, last_year, parts, psi_index, cells, row_start, variance_of, prior_mean, prior_variance, amount}
use Rattle.definitions.specs.Observations.{Chain, log_of, ratio_variance}
use Rattle.definitions.specs.Matrix.{Part, Φ, Ψ, part_by_index, Figures, figures_from}
use Rattle.definitions.specs.Strikes.{Step, step, steps_in, same_step, without, StruckFile, is_struck, unstruck, figures_left}
use Rattle.definitions.specs.Ultimate.{Latest}
use Rattle.definitions.specs.Machine.{Keeping}

-- By part are the variances, the weights p and q of its observations, the weight and the mean of its prior; by cell, paid block first, the
-- logarithms of the amounts; by development year the weights g of the ratios.
pub record Observed : Type 0 where
  pub logarithms : List ℤ
  pub variances : List ℕ
  pub weights : List ℕ
  pub prior_weights : List ℕ
  pub ratio_weights : List ℕ
  pub prior_means : List ℤ

abbrev pub observed_of : Bytes → Observed
observed_of f = record {
  logarithms = tab_from 0 (2 * cells (last_year f)) (λ c. log_of (amount f c));
  variances = tab_from 0 (parts (last_year f)) (variance_of f);
  weights = tab_from 0 (parts (last_year f)) (λ k. weight (variance_of f k));
  prior_weights = tab_from 0 (parts (last_year f)) (λ k. weight (prior_variance f k));
  ratio_weights = tab_from 0 (last_year f) (λ k. weight (ratio_variance f k));
  prior_means = tab_from 0 (parts (last_year f)) (prior_mean f);
}

-- the last cell of each accident year, by its number, and the variances by part
abbrev pub latest_in : ℕ → Observed → Latest
latest_in J o = record {
  log_paid = λ i. part o.logarithms (row_start J i + (J - i));
  log_incurred = λ i. part o.logarithms (cells J + (row_start J i + (J - i)));
  variance_Φ = λ m. get_or o.variances m 0;
  variance_Ψ = λ n. get_or o.variances (psi_index J n) 0;
}

-- ---- the chain that is made of it

-- x_(i,j), z_(i,j) and y_i from the logarithms by cell
unfoldable pub paid_step_in : List ℤ → ℕ → ℕ → ℕ → ℤ
paid_step_in logs J i zero = part logs (row_start J i + 0)
paid_step_in logs J i (suc j) = part logs (row_start J i + suc j) -ℤ part logs (row_start J i + j)

abbrev pub incurred_step_in : List ℤ → ℕ → ℕ → ℕ → ℤ
incurred_step_in logs J i j = part logs (cells J + (row_start J i + (j + 1))) -ℤ part logs (cells J + (row_start J i + j))

abbrev pub last_ratio_in : List ℤ → ℕ → ℕ → ℤ
last_ratio_in logs J i = part logs (cells J + (row_start J i + (J - i))) -ℤ part logs (row_start J i + (J - i))

abbrev pub chain_in : ℕ → Observed → Chain
chain_in J o = record {
  last = J;
  p = λ i j. get_or o.weights j 0;
  q = λ i j. get_or o.weights (psi_index J j) 0;
  s = λ j. get_or o.prior_weights j 0;
  t = λ j. get_or o.prior_weights (psi_index J j) 0;
  g = λ d. get_or o.ratio_weights d 0;
  x = paid_step_in o.logarithms J;
  z = incurred_step_in o.logarithms J;
  y = last_ratio_in o.logarithms J;
  prior_Φ = part o.prior_means;
  prior_Ψ = λ j. part o.prior_means (psi_index J j);
}

-- ---- marks: whether a step is struck, by part and accident year

abbrev pub Marks : Type 0
Marks = List (List Bool)

abbrev pub channel_of : Part → ℕ
channel_of (Φ j) = 0
channel_of (Ψ j) = 1

abbrev pub column_of : Part → ℕ
column_of (Φ j) = j
column_of (Ψ j) = j

-- the step of part k and accident year i, and how many steps part k has
abbrev pub step_of : ℕ → ℕ → ℕ → Step
step_of J k i = step (channel_of (part_by_index J k)) i (column_of (part_by_index J k))

abbrev pub steps_of : ℕ → ℕ → ℕ
steps_of J k = steps_in J (channel_of (part_by_index J k)) (column_of (part_by_index J k))

unfoldable pub marks_of : ℕ → (Step → Bool) → Marks
marks_of J struck = tab_from 0 (parts J) (λ k. tab_from 0 (steps_of J k) (λ i. struck (step_of J k i)))

-- the mark of a step
abbrev pub part_of_step : ℕ → Step → ℕ
part_of_step J (step channel i j) = cond (eqb channel 0) j (psi_index J j)

unfoldable pub marked : ℕ → Marks → Step → Bool
marked J marks (step channel i j) = get_or (get_or marks (part_of_step J (step channel i j)) []) i false

-- ---- what is kept

pub record Kept : Type 0 where
  pub figures : Figures
  pub observed : Observed
  pub struck : Marks

abbrev pub kept_of : StruckFile → Kept
kept_of f = record {
  figures = figures_left f;
  observed = observed_of f.file;
  struck = marks_of (last_year f.file) (is_struck f);
}

-- the observations that are left
abbrev pub chain_kept : Kept → Chain
chain_kept x = without (marked x.figures.last x.struck) (chain_in x.figures.last x.observed)

-- with one step more: marked, and the figures made anew of what is left
abbrev pub with_struck : Step → Kept → Kept
with_struck s x =
    let J = x.figures.last in
    let struck : Step → Bool = λ t. marked J x.struck t || same_step s t in
    record {
      figures = figures_from (without struck (chain_in J x.observed)) x.figures.closeness;
      observed = x.observed;
      struck = marks_of J struck;
    }

-- the session machine on what a session keeps
abbrev pub in_session : Keeping Kept
in_session = record {
  keep = λ f. kept_of (unstruck f);
  figures = λ x. x.figures;
  prior_means = λ x. x.observed.prior_means;
  latest = λ x. latest_in x.figures.last x.observed;
  chain = chain_kept;
  struck = λ x. marked x.figures.last x.struck;
  strike_out = with_struck;
}
