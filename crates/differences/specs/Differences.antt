-- The contracts of the residues by observations. The arrays are a session's, and stand for the chain of the observations that are left.
-- What a function is not lent may be anything.
use Rattle.std.specs.Prelude.{ℕ, ◌+◌, ◌-◌, ◌^◌, ◌≤◌, ◌<◌, ◌≡◌, List, ℤ, pos, nat_abs, ◌+ℤ◌, ◌-ℤ◌, ◌*ℤ◌}
use Rattle.integers.specs.Sum.{sum}
use Rattle.definitions.specs.Words.{part}
use Rattle.definitions.specs.Layout.{parts}
use Rattle.definitions.specs.Refusals.{year_limit, part_limit}
use Rattle.definitions.specs.Observations.{Chain}
use Rattle.definitions.specs.Loss.{ratio}
use Rattle.definitions.specs.Matrix.{Part, Φ, Ψ, part_by_index}
use Rattle.definitions.specs.Residues.{observed_times}
use Rattle.definitions.specs.Strikes.{without}
use Rattle.definitions.specs.Kept.{chain_in, steps_of, marked}
use Rattle.laws.specs.Filled.{Filled}
use Rattle.laws.specs.Ranks.{rank_of, sign_of}
use Rattle.observations.specs.declared.Observations.{Observations}
use Rattle.observations.specs.Arrays.{log_within, observations_at, observed_in, struck_in}

-- the observations that are left of so many years
abbrev pub left_in : ℕ → Observations → Chain
left_in J o = without (marked J (struck_in J o)) (chain_in J (observed_in J o))

-- the logarithm of a cell as it is read
abbrev pub log_at : List ℤ → ℕ → ℤ
log_at ticks cell = log_within (part ticks cell)

-- ---- a part's prior and its own observations, of a chain

abbrev pub prior_weight_of : Chain → Part → ℕ
prior_weight_of c (Φ j) = c.s j
prior_weight_of c (Ψ j) = c.t j

abbrev pub prior_mean_of : Chain → Part → ℤ
prior_mean_of c (Φ j) = c.prior_Φ j
prior_mean_of c (Ψ j) = c.prior_Ψ j

abbrev pub weight_of : Chain → Part → ℕ → ℕ
weight_of c (Φ j) i = c.p i j
weight_of c (Ψ j) i = c.q i j

abbrev pub observation_of : Chain → Part → ℕ → ℤ
observation_of c (Φ j) i = c.x i j
observation_of c (Ψ j) i = c.z i j

-- weight times difference, of a part with the value v: its prior, and its first n observations
abbrev pub prior_term : Chain → Part → ℤ → ℤ
prior_term c a v = pos (prior_weight_of c a) *ℤ (v -ℤ prior_mean_of c a)

abbrev pub step_term : Chain → Part → ℤ → ℕ → ℤ
step_term c a v i = pos (weight_of c a i) *ℤ (v -ℤ observation_of c a i)

-- ---- one term

pub record OfTerm (weight : ℕ) (part observed : ℤ) : Type 0 where
  pub light : weight ≤ 2 ^ 28
  pub part_small : nat_abs part ≤ 2 ^ 31
  pub observed_small : nat_abs observed ≤ 2 ^ 26

-- ---- own observations

pub record ObservationIs (ticks : List ℤ) (last k i : ℕ) (r : ℤ) : Type 0 where
  pub is : (weights variances struck : List ℕ)
      → r ≡ observation_of (left_in last (observations_at ticks weights variances struck)) (part_by_index last k) i

pub record PriorMissed (ticks : List ℤ) (weights : List ℕ) (last k : ℕ) (v r : ℤ) : Type 0 where
  pub is : (variances struck : List ℕ)
      → r ≡ prior_term (left_in last (observations_at ticks weights variances struck)) (part_by_index last k) v

pub record StepsMissed (ticks : List ℤ) (weights struck : List ℕ) (last k : ℕ) (v r : ℤ) : Type 0 where
  pub is : (variances : List ℕ)
      → r ≡ sum (steps_of last k) (step_term (left_in last (observations_at ticks weights variances struck)) (part_by_index last k) v)

-- ---- ratios

pub record OfRatio (mean : List ℤ) (last d : ℕ) : Type 0 where
  pub few : last ≤ year_limit
  pub below : d < last
  pub small : (k : ℕ) → k < parts last → nat_abs (part mean k) ≤ part_limit

-- Φ_m for m > d less Ψ_n for n ≥ d, one of each at a time
abbrev pub ratio_from : List ℤ → ℕ → ℕ → ℤ
ratio_from mean J d = sum (J - d) (λ n. part mean (d + 1 + n) -ℤ part mean (J + 1 + d + n))

abbrev pub ratio_term : Chain → List ℤ → ℕ → ℤ
ratio_term c mean d = pos (c.g d) *ℤ (ratio c (part mean) (c.last - d) -ℤ c.y (c.last - d))

pub record RatioMissed (ticks : List ℤ) (weights : List ℕ) (mean : List ℤ) (last d : ℕ) (r : ℤ) : Type 0 where
  pub is : (variances struck : List ℕ) → r ≡ ratio_term (left_in last (observations_at ticks weights variances struck)) mean d

pub record RatiosMissed (ticks : List ℤ) (weights : List ℕ) (mean : List ℤ) (last : ℕ) (r : List ℤ) : Type 0 where
  pub are : (variances struck : List ℕ) (n : ℕ) → n ≤ last
      → part r n ≡ sum n (ratio_term (left_in last (observations_at ticks weights variances struck)) mean)

-- ---- residues

pub record ResidueAt (ticks : List ℤ) (weights struck : List ℕ) (shared : List ℤ) (last k : ℕ) (v r : ℤ) : Type 0 where
  pub is : (variances : List ℕ)
      → let c : Chain = left_in last (observations_at ticks weights variances struck) in
      let a : Part = part_by_index last k in
      r ≡ prior_term c a v +ℤ sum (steps_of last k) (step_term c a v) +ℤ sign_of a *ℤ part shared (rank_of a)

pub record OfResidues (mean : List ℤ) (last : ℕ) : Type 0 where
  pub few : last ≤ year_limit
  pub small : (k : ℕ) → k < parts last → nat_abs (part mean k) ≤ part_limit

-- the definitions' residues, zeros behind them
pub record ResiduesOf (ticks : List ℤ) (weights struck : List ℕ) (mean : List ℤ) (last : ℕ) (r : List ℤ) : Type 0 where
  pub are : (variances : List ℕ)
      → Filled 31 (parts last) (pos 0) (observed_times (left_in last (observations_at ticks weights variances struck)) 1 (part mean)) r
