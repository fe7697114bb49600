-- `observation` meets its contract: a first logarithm, or the step between two cells of a block.
use Prim.Native.Nat.{ℕ, ◌+◌, ◌*◌, ◌-◌, ◌≤◌, ◌<◌}
use mathlib.Core.Path.{◌≡◌, ap, ap₂, ◌∙◌}
use mathlib.Core.Logic.{◌≢◌}
use native.Mathlib.Omega.{arith}
use lib.IntN.{ℤ, ◌-ℤ◌}
use Rattle.integers.specs.Bits.{same}
use Rattle.definitions.specs.Layout.{cells, row_start}
use Rattle.definitions.specs.Kept.{steps_of}
use Rattle.laws.proofs.Cells.{cell_below, cells_few}
use Rattle.laws.proofs.Marks.{steps_phi, steps_psi}
use Rattle.row_starts.specs.Starts.{starts_at}
use Rattle.observations.specs.Arrays as Arrays
use Rattle.observations.specs.Arrays.{observations_at}
use Rattle.differences.specs.Differences.{log_at}
use Rattle.differences.proofs.DifferenceLaws.{step_year, first_is, paid_is, incurred_is}
use Rattle.differences.proofs.kept.Kept.observation.Goals as goal
use Rattle.differences.proofs.kept.Kept.observation.Goals.{After-cells_of, Start}

module _ (s : Start) where
  abbrev J : ℕ
  J = s.args.self.now.last

  abbrev k : ℕ
  k = s.args.k

  abbrev i : ℕ
  i = s.args.i

  year_few : i ≤ J
  year_few = step_year J k i s.requires.below s.requires.there

  abbrev row : ℕ
  row = Arrays.at s.args.self.now.starts i

  row_is : row ≡ row_start J i
  row_is = starts_at s.args.self.now.starts_are i year_few s.args.self.now.few

  abbrev log : ℕ → ℤ
  log = log_at s.args.self.now.ticks.now

  -- the cells of the two blocks are in the array
  cells_inside : 2 * cells J ≤ 272
  cells_inside = omega (arith, cells_few J s.args.self.now.few)

  first_cell : k ≡ 0 → row < 272
  first_cell none =
      let steps : steps_of J k ≡ J - 0 + 1 = ap (steps_of J) none ∙ steps_phi J 0 (omega arith) in
      omega (arith, row_is, cell_below J i 0 (omega (arith, s.requires.there, steps)), cells_inside)

  paid_cell : k ≢ 0 → k ≤ J → row + (k - 1) + 1 < 272
  paid_cell some few =
      omega (arith, some, row_is, cell_below J i k (omega (arith, s.requires.there, steps_phi J k few)), cells_inside)

  incurred_cell : J < k → cells J + (row + (k - J - 1)) + 1 < 272
  incurred_cell past =
      omega (
        arith,
        past,
        row_is,
        cell_below J i (k - J) (omega (arith, past, s.requires.there, steps_psi J k past)),
        cells_inside,
      )

pub kept_logarithm-requires : goal.kept_logarithm-requires
kept_logarithm-requires c = first_cell (goal.at.kept_logarithm-requires c).Start c.if-k-eq0.true

pub returns-then-k-eq0 : goal.returns-then-k-eq0
returns-then-k-eq0 c =
    let start = (goal.at.returns-then-k-eq0 c).Start in
    record {
      is = λ weights variances struck.
          same _ c.struct_told-1.given.0.1
          ∙ c.kept_logarithm.ensures
          ∙ ap (log start) (row_is start)
          ∙ first_is (J start) (observations_at c.args.self.now.ticks.now weights variances struck) (k start) (i start) c.if-k-eq0.true c.requires.there;
    }

pub overflow_add-start : goal.overflow_add-start
overflow_add-start c = omega (arith, paid_cell (goal.at.overflow_add-start c).Start c.if-k-eq0.false c.if-k-years.true)

pub step_at-requires : goal.step_at-requires
step_at-requires c = paid_cell (goal.at.step_at-requires c).Start c.if-k-eq0.false c.if-k-years.true

pub returns-then-k-years : goal.returns-then-k-years
returns-then-k-years c =
    let start = (goal.at.returns-then-k-years c).Start in
    record {
      is = λ weights variances struck.
          same _ c.step_at.type_inv
          ∙ c.step_at.ensures
          ∙ ap (λ n. log start (n + (k start - 1) + 1) -ℤ log start (n + (k start - 1))) (row_is start)
          ∙ paid_is (J start) (observations_at c.args.self.now.ticks.now weights variances struck) (k start) (i start)
          c.if-k-eq0.false c.if-k-years.true c.requires.there;
    }

-- the step of the incurred block
module _ (c : After-cells_of) where
  abbrev start : Start
  start = (goal.at.overflow_add-start-else-k-years c).Start

  past : J start < k start
  past = omega (arith, c.if-k-years.false)

  cell_inside : c.cells_of.result + (row start + (k start - J start - 1)) + 1 < 272
  cell_inside = omega (arith, c.cells_of.ensures, incurred_cell start past)

pub overflow_add-start-else-k-years : goal.overflow_add-start-else-k-years
overflow_add-start-else-k-years c = omega (arith, cell_inside c)

pub overflow_add-cells_of : goal.overflow_add-cells_of
overflow_add-cells_of c = omega (arith, cell_inside c)

pub step_at-requires-else-k-years : goal.step_at-requires-else-k-years
step_at-requires-else-k-years c = cell_inside c

pub returns-else-k-years : goal.returns-else-k-years
returns-else-k-years c =
    let start = (goal.at.returns-else-k-years c).Start in
    record {
      is = λ weights variances struck.
          same _ c.step_at-else-k-years.type_inv
          ∙ c.step_at-else-k-years.ensures
          ∙ ap₂ (λ m n. log start (m + (n + (k start - J start - 1)) + 1)
          -ℤ log start (m + (n + (k start - J start - 1)))) c.cells_of.ensures (row_is start)
          ∙ incurred_is (J start) (observations_at c.args.self.now.ticks.now weights variances struck) (k start) (i start)
          (past (goal.at.returns-else-k-years c).After-cells_of) c.requires.below c.requires.there;
    }
