-- Demand 3: what a passed mean is worth, of observations with a closeness e, and so of every accepted file, whatever steps are struck. A
-- rational vector is any u over one m ≥ 1, with no limits; of u only the parts 0..2J count. Whole numbers alone are compared: a loss is
-- m² times as large here, a residue m times, a distance m²·ΣD times.
use Rattle.std.specs.Prelude.{ℕ, ◌*◌, ◌≤◌, ◌<◌, ◌≡◌, ◌≢◌, true, ℤ, pos, nat_abs, ◌+ℤ◌, ◌-ℤ◌, ◌*ℤ◌, ◌≤ℤ◌, ◌<ℤ◌}
use Rattle.integers.specs.Summation.{sum, total}
use Rattle.definitions.specs.Layout.{closeness, parts}
use Rattle.definitions.specs.Refusals.{part_limit}
use Rattle.definitions.specs.Observations.{Chain}
use Rattle.definitions.specs.Loss.{Vector, weighted, loss, loss_times}
use Rattle.definitions.specs.Matrix.{own, residue_times, figures_from, passes}
use Rattle.definitions.specs.Strikes.{StruckFile, Admitted, chain_left, figures_left}

module _ (c : Chain) (e : ℕ) where
  abbrev pub parts_of : ℕ
  parts_of = parts c.last

  -- e² times the sum of own weights
  abbrev pub slack : ℕ
  slack = e * e * total parts_of (own c)

  -- each residue of u/m is 0
  abbrev pub ZeroResidue : ℕ → Vector → Type 0
  ZeroResidue m u = (k : ℕ) → k < parts_of → residue_times c m u k ≡ pos 0

  -- how far u/m is from a mean in weighted mean square; as a whole number, m²·ΣD times that
  abbrev pub distance_times : ℕ → Vector → Vector → ℤ
  distance_times m u μ = sum parts_of (λ k. weighted (own c k) (u k -ℤ pos m *ℤ μ k))

  -- u/m is another vector than the mean: it differs at some part
  abbrev pub Another : ℕ → Vector → Vector → Type 0
  Another m u μ = (k : ℕ) × (k < parts_of) × (u k ≢ pos m *ℤ μ k)

  -- the mean is u/m rounded: no part is further off than half a tick
  abbrev pub WithinHalfATick : ℕ → Vector → Vector → Type 0
  WithinHalfATick m u μ = (k : ℕ) → k < parts_of → 2 * nat_abs (u k -ℤ pos m *ℤ μ k) ≤ m

  -- a whole mean inside the limits
  abbrev pub InsideLimits : Vector → Type 0
  InsideLimits μ = (k : ℕ) → k < parts_of → nat_abs (μ k) ≤ part_limit

  -- What a mean that passes is worth.
  pub record Guarantee (μ : Vector) : Type 0 where
    -- no rational vector has a loss that is lower by more than the slack
    pub nearly_least : (m : ℕ) (u : Vector) → 1 ≤ m
        → (pos (m * m) *ℤ loss c μ) ≤ℤ (loss_times c m u +ℤ pos (m * m * slack))
    -- a rational vector whose residues are all 0 is no further away than e² in weighted mean square
    pub near : (m : ℕ) (u : Vector) → 1 ≤ m → ZeroResidue m u → distance_times m u μ ≤ℤ pos (m * m * slack)
    -- where the mean's own residues are all 0, any other rational vector has a higher loss
    pub strictly_least : ZeroResidue 1 μ → (m : ℕ) (u : Vector) → 1 ≤ m → Another m u μ
        → (pos (m * m) *ℤ loss c μ) <ℤ loss_times c m u

  -- A mean that was rounded from an exact one, u/m, with a closeness that leaves room for that.
  pub record Rounded (μ : Vector) : Type 0 where
    pub room : 256 ≤ e
    pub inside : InsideLimits μ
    pub m : ℕ
    pub u : Vector
    pub some : 1 ≤ m
    pub exact : ZeroResidue m u
    pub half : WithinHalfATick m u μ

  abbrev pub RoundingPasses : Type 0
  RoundingPasses = (μ : Vector) → Rounded μ → passes (figures_from c e) μ ≡ true

-- demand 3, whole: for every accepted file and whatever steps are struck while one is left in each column, whoever proposed the mean
pub record Demand3 : Type 0 where
  pub guarantee : (f : StruckFile) → Admitted f → (μ : Vector) → passes (figures_left f) μ ≡ true
      → Guarantee (chain_left f) (closeness f.file) μ
  pub rounding : (f : StruckFile) → Admitted f → RoundingPasses (chain_left f) (closeness f.file)
