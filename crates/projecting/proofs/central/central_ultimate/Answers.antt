-- `central_ultimate` meets its contract: both sides of the year's last cell, weighted.
use Prim.Native.Nat.{ℕ, ◌+◌, ◌-◌}
use mathlib.Core.Path.{◌≡◌, ap, ap₂}
use native.Mathlib.Omega.{arith}
use Rattle.definitions.specs.Layout.{cells, row_start}
use Rattle.projecting.specs.Central.{OfSide, SideOf}
use Rattle.projecting.proofs.CentralLaws.{side_at, paid_asked, incurred_asked, sides_asked, central_of}
use Rattle.projecting.proofs.central.central_ultimate.Goals as goal
use Rattle.projecting.proofs.central.central_ultimate.Goals.{After-cells_of, After-row_start, After-side_of-incurred}

-- the last cell of the year
module _ (c : After-row_start) where
  abbrev J : ℕ
  J = c.args.last

  abbrev k : ℕ
  k = J - c.args.year

  cell_is : c.row_start.result + k ≡ row_start J c.args.year + k
  cell_is = ap (λ n. n + k) c.row_start.ensures

  paid_needs : OfSide c.args.mean.now (c.row_start.result + k) (k + 1) c.args.year
  paid_needs = rw cell_is (paid_asked c.requires)

pub overflow_add-cell : goal.overflow_add-cell
overflow_add-cell c = omega (arith, (paid_needs c).cell_inside)

pub side_of-paid-requires : goal.side_of-paid-requires
side_of-paid-requires c = let h = c.requires in record {
  run = record {
    inside = omega (arith, h.few, h.to);
    few = omega (arith, h.few, h.to);
    small = λ m below. h.small _ (omega (arith, h.to));
  };
  cell_inside = omega (arith, (paid_needs c).cell_inside);
}

-- that of the incurred block
module _ (c : After-cells_of) where
  abbrev after_row_start : After-row_start
  after_row_start = (goal.at.overflow_add-cells_of c).After-row_start

  incurred_cell : c.cells_of.result + (c.row_start.result + k after_row_start)
      ≡ cells (J after_row_start) + (row_start (J after_row_start) c.args.year + k after_row_start)
  incurred_cell = ap₂ ◌+◌ c.cells_of.ensures (cell_is after_row_start)

  incurred_needs : OfSide
      c.args.mean.now (c.cells_of.result + (c.row_start.result + k after_row_start)) (J after_row_start + 1 + k after_row_start)
      c.args.year
  incurred_needs = rw incurred_cell (incurred_asked c.requires)

pub overflow_add-cells_of : goal.overflow_add-cells_of
overflow_add-cells_of c = omega (arith, (incurred_needs c).cell_inside)

pub side_of-incurred-requires : goal.side_of-incurred-requires
side_of-incurred-requires c = let h = c.requires in record {
  run = record {
    inside = omega (arith, h.few, h.to);
    few = omega (arith, h.few, h.to);
    small = λ m below. h.small _ (omega (arith, h.to));
  };
  cell_inside = omega (arith, (incurred_needs c).cell_inside);
}

-- both sides
module _ (c : After-side_of-incurred) where
  abbrev row_start_done : After-row_start
  row_start_done = (goal.at.weighted-requires c).After-row_start

  paid_side : SideOf c.args.mean.now c.args.ticks.now c.args.variances.now
      (row_start (J row_start_done) c.args.year + k row_start_done) (k row_start_done + 1) c.args.year c.side_of-paid.result
  paid_side = side_at (cell_is row_start_done) c.side_of-paid.ensures

  incurred_side : SideOf c.args.mean.now c.args.ticks.now c.args.variances.now
      (cells (J row_start_done) + (row_start (J row_start_done) c.args.year + k row_start_done)) (J row_start_done + 1 + k row_start_done) c.args.year
      c.side_of-incurred.result
  incurred_side = side_at (incurred_cell (goal.at.weighted-requires c).After-cells_of) c.side_of-incurred.ensures

pub weighted-requires : goal.weighted-requires
weighted-requires c = sides_asked c.requires (paid_side c) (incurred_side c)

pub returns : goal.returns
returns c =
    let after_side_of_incurred = (goal.at.returns c).After-side_of-incurred in
    central_of c.requires (paid_side after_side_of_incurred) (incurred_side after_side_of_incurred) c.weighted.ensures
