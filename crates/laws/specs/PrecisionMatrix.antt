-- The specification's loss as a loss of `Quadratic`: the coefficients of each part, and the ratios as its combinations.
use Rattle.std.specs.Prelude.{ℕ, ◌+◌, ◌-◌, ltb, ℤ, pos, ◌+ℤ◌, ◌*ℤ◌}
use Rattle.integers.specs.Sum.{sum}
use Rattle.integers.specs.SumRange.{only}
use Rattle.definitions.specs.Layout.{parts}
use Rattle.definitions.specs.Observations.{Chain}
use Rattle.definitions.specs.Matrix.{Part, Φ, Ψ, part_by_index, own}
use Rattle.laws.specs.Quadratic.{Form}
use Rattle.laws.specs.Ranks.{rank_of, sign_of}

module _ (c : Chain) where
  abbrev J : ℕ
  J = c.last

  abbrev pub firsts_of : Part → ℤ
  firsts_of (Φ j) = pos (c.s j) *ℤ c.prior_Φ j +ℤ sum (J - j + 1) (λ i. pos (c.p i j) *ℤ c.x i j)
  firsts_of (Ψ j) = pos (c.t j) *ℤ c.prior_Ψ j +ℤ sum (J - j) (λ i. pos (c.q i j) *ℤ c.z i j)

  abbrev pub seconds_of : Part → ℤ
  seconds_of (Φ j) =
      pos (c.s j) *ℤ (c.prior_Φ j *ℤ c.prior_Φ j) +ℤ sum (J - j + 1) (λ i. pos (c.p i j) *ℤ (c.x i j *ℤ c.x i j))
  seconds_of (Ψ j) = pos (c.t j) *ℤ (c.prior_Ψ j *ℤ c.prior_Ψ j) +ℤ sum (J - j) (λ i. pos (c.q i j) *ℤ (c.z i j *ℤ c.z i j))

  -- the combination of development year d is the ratio of accident year J − d
  abbrev pub loss_form : Form
  loss_form = record {
    parts = parts J;
    own = own c;
    firsts = λ k. firsts_of (part_by_index J k);
    seconds = λ k. seconds_of (part_by_index J k);
    combinations = J;
    weight = c.g;
    factor = λ d k. only (ltb d (rank_of (part_by_index J k))) (sign_of (part_by_index J k));
    observed = λ d. c.y (J - d);
  }
