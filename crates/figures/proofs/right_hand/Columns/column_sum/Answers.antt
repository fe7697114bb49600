-- `figures::right_hand::Columns::column_sum` meets its contract: Φ_0, another Φ and a Ψ each have their sum.
use Prim.Native.Nat.{◌-◌, zero-le}
use mathlib.Core.Path.{sym, ap, ◌∙◌}
use native.Mathlib.Omega.{arith}
use Rattle.integers.specs.Bits.{same}
use Rattle.figures.specs.Sums.{step_sum}
use Rattle.figures.specs.SumLaws.{column_start, column_phi, column_psi}
use Rattle.figures.proofs.right_hand.Columns.column_sum.Goals as goal

pub returns-then-k-eq0 : goal.returns-then-k-eq0
returns-then-k-eq0 c =
    let a = c.args in
    same c.start_sum.result c.start_sum.type_inv
    ∙ c.start_sum.ensures
    ∙ sym (column_start a.self.now.ticks.now a.self.now.struck.now a.self.now.last a.k c.if-k-eq0.true)

pub step_sum-requires : goal.step_sum-requires
step_sum-requires c = record {
  of_rows = c.requires.of_rows;
  in_blocks = zero-le;
  before_last = omega (arith, c.if-k-years.true, c.if-k-eq0.false);
  of_part = c.requires.below;
}

pub returns-then-k-years : goal.returns-then-k-years
returns-then-k-years c =
    let a = c.args in
    same c.step_sum.result c.step_sum.type_inv
    ∙ c.step_sum.ensures
    ∙ sym (column_phi a.self.now.ticks.now a.self.now.struck.now a.self.now.last a.k c.if-k-eq0.false c.if-k-years.true)

pub step_sum-requires-else-k-years : goal.step_sum-requires-else-k-years
step_sum-requires-else-k-years c = record {
  of_rows = c.requires.of_rows;
  in_blocks = omega (arith, c.cells_of.ensures);
  before_last = omega (arith, c.if-k-years.false, c.requires.below);
  of_part = c.requires.below;
}

pub returns-else-k-years : goal.returns-else-k-years
returns-else-k-years c =
    let a = c.args in
    same c.step_sum-else-k-years.result c.step_sum-else-k-years.type_inv
    ∙ c.step_sum-else-k-years.ensures
    ∙ ap (λ block. step_sum a.self.now.ticks.now a.self.now.struck.now a.self.now.last block (a.k - a.self.now.last - 1) a.k) c.cells_of.ensures
    ∙ sym (column_psi a.self.now.ticks.now a.self.now.struck.now a.self.now.last a.k c.if-k-years.false)
