-- The contracts of reading a file into the arrays.
use Rattle.std.specs.Prelude.{ℕ, ◌+◌, ◌*◌, ◌≤◌, ◌<◌, ◌≡◌, false, List, ℤ, length}
use Rattle.definitions.specs.Words.{part}
use Rattle.definitions.specs.Layout.{Bytes, last_year, parts, cells, variance_of, prior_variance, prior_mean, amount}
use Rattle.definitions.specs.Weight.{weight}
use Rattle.definitions.specs.Observations.{log_of, ratio_variance}
use Rattle.layout.specs.Checks.{Whole}
use Rattle.observations.specs.Arrays.{at, mean_at, prior_at, ratio_at, mark_at}

-- ---- cells

pub record OfCells (f : Bytes) (ticks : List ℤ) : Type 0 where
  pub whole : Whole f
  pub long : length ticks ≡ 303

-- the logarithms of the cells below n
pub record CellsTo (n : ℕ) (f : Bytes) (ticks : List ℤ) : Type 0 where
  pub long : length ticks ≡ 303
  pub there : (c : ℕ) → c < n → part ticks c ≡ log_of (amount f c)

-- four cells more are to be read
pub record OfFour (f : Bytes) (c : ℕ) (ticks : List ℤ) : Type 0 where
  pub whole : Whole f
  pub more : c + 4 ≤ 2 * cells (last_year f)
  pub so_far : CellsTo c f ticks

pub record Logarithms (f : Bytes) (ticks : List ℤ) : Type 0 where
  pub all : CellsTo (2 * cells (last_year f)) f ticks

-- ---- parts

-- all cells, and the parts below n
pub record PartsTo (n : ℕ) (f : Bytes) (ticks : List ℤ) (weights variances : List ℕ) : Type 0 where
  pub logarithms : Logarithms f ticks
  pub weights_long : length weights ≡ 77
  pub variances_long : length variances ≡ 31
  pub variances_are : (k : ℕ) → k < n → at variances k ≡ variance_of f k
  pub weights_are : (k : ℕ) → k < n → at weights k ≡ weight (variance_of f k)
  pub priors_are : (k : ℕ) → k < n → prior_at weights k ≡ weight (prior_variance f k)
  pub means_are : (k : ℕ) → k < n → mean_at ticks k ≡ prior_mean f k

-- one part more is to be read
pub record OfPart (k : ℕ) (f : Bytes) (ticks : List ℤ) (weights variances : List ℕ) : Type 0 where
  pub whole : Whole f
  pub below : k < parts (last_year f)
  pub so_far : PartsTo k f ticks weights variances

pub record OfParts (f : Bytes) (ticks : List ℤ) (weights variances : List ℕ) : Type 0 where
  pub whole : Whole f
  pub logarithms : Logarithms f ticks
  pub weights_long : length weights ≡ 77
  pub variances_long : length variances ≡ 31

pub record Parts (f : Bytes) (ticks : List ℤ) (weights variances : List ℕ) : Type 0 where
  pub all : PartsTo (parts (last_year f)) f ticks weights variances

-- ---- the whole file, of which no step is struck

pub record Observes (f : Bytes) (ticks : List ℤ) (weights variances struck : List ℕ) : Type 0 where
  pub parts_are : Parts f ticks weights variances
  pub ratios_are : (d : ℕ) → d < last_year f → ratio_at weights d ≡ weight (ratio_variance f d)
  pub unstruck : (k i : ℕ) → mark_at struck k i ≡ false
