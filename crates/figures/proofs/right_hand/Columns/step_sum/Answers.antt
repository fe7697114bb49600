-- `figures::right_hand::Columns::step_sum` meets its contract. The loop's invariant: the total is that of the years before i.
use Prim.Native.Nat.{ℕ, ◌+◌, ◌*◌, ◌-◌, ◌^◌, ◌≤◌, ◌<◌}
use mathlib.Core.Path.{◌≡◌, sym, ap, ap₂, ◌∙◌}
use mathlib.Core.Bool.{cond}
use mathlib.Core.List.{List}
use native.Mathlib.Omega.{arith}
use lib.IntN.{ℤ, pos, nat_abs, ◌+ℤ◌, ◌-ℤ◌}
use mir.Syntax.{w64}
use mir.Val.{to_z}
use Rattle.integers.specs.Size.{fits, kept}
use Rattle.integers.specs.Sum.{sum, sum_zero, sum_next}
use Rattle.definitions.specs.Words.{part}
use Rattle.definitions.specs.Layout.{cells, row_start}
use Rattle.integers.specs.Bits.{stored, read, same}
use Rattle.observations.specs.Arrays
use Rattle.observations.specs.Arrays.{mark_at}
use Rattle.figures.specs.Sums.{Logs, step_of, counted_at, step_sum}
use Rattle.figures.specs.SumLaws.{row_at, step_inside, step_small, sum_small, counted_small}
use Rattle.figures.proofs.right_hand.Columns.step_sum.Goals as goal
use Rattle.figures.proofs.right_hand.Columns.step_sum.Goals.{After-counted-total, In-loop-i}

pub overflow_sub-count : goal.overflow_sub-count
overflow_sub-count c = omega (arith, c.requires.before_last)

pub loop-i-init : goal.loop-i-init
loop-i-init c = sym (sum_zero _)

-- the next two logarithms, as they are read
module _ (c : In-loop-i) where
  abbrev i : ℕ
  i = c.loop-i.i

  abbrev J : ℕ
  J = c.args.self.now.last

  abbrev at : ℕ
  at = c.args.block + (Arrays.at c.args.self.now.starts i + c.args.column)

  abbrev logs : List ℤ
  logs = c.args.self.now.ticks.now

  abbrev small : Logs logs J
  small = c.requires.of_rows.logs_small

  abbrev step_at : ℕ → ℤ
  step_at = step_of logs J c.args.block c.args.column

  more : i < J - c.args.column
  more = c.loop-i-test.true

  cell_is : Arrays.at c.args.self.now.starts i + c.args.column ≡ row_start J i + c.args.column
  cell_is = ap (λ n. n + c.args.column) (row_at c.requires.of_rows i (omega (arith, more)))

  at_is : at ≡ c.args.block + (row_start J i + c.args.column)
  at_is = ap (λ n. c.args.block + n) cell_is

  inside : at + 1 < 2 * cells J
  inside = omega (arith, at_is, step_inside J c.args.block c.args.column i c.requires.in_blocks more)

  log_at_lem : (n : ℕ) → n < 2 * cells J → stored (part logs n) ≡ part logs n
  log_at_lem n below = read (part logs n) (omega (arith, small.small n below))

  step : stored (part logs (at + 1)) -ℤ stored (part logs at) ≡ step_at i
  step =
      ap₂ ◌-ℤ◌ (log_at_lem (at + 1) inside) (log_at_lem at (omega (arith, inside)))
      ∙ ap (λ n. part logs (n + 1) -ℤ part logs n) at_is

  steps_small : (y : ℕ) → y < J - c.args.column → nat_abs (step_at y) ≤ 2 ^ 27
  steps_small y below = step_small logs J c.args.block c.args.column y small c.requires.in_blocks below

  next_step : nat_abs (step_at i) < 2 ^ 63
  next_step = omega (arith, steps_small i more)

  abbrev counts : ℕ → ℤ
  counts = counted_at c.args.self.now.struck.now c.args.k step_at

  next_small : nat_abs (sum (i + 1) counts) < 2 ^ 63
  next_small =
      sum_small (i + 1) counts (omega (arith, more, small.few))
      (λ y below. counted_small c.args.self.now.struck.now c.args.k step_at y (omega (arith, steps_small y (omega (arith, more)))))

pub overflow_sub-step : goal.overflow_sub-step
overflow_sub-step c =
    let in_loop_i = (goal.at.overflow_sub-step c).In-loop-i in
    fits (step in_loop_i) (next_step in_loop_i)

-- with the next step, where it counts
next : (c : After-counted-total)
    → to_z w64 c.loop-i.total-bits +ℤ stored c.counted-total.result
    ≡ sum (i (goal.at.overflow_add-total c).In-loop-i + 1) (counts (goal.at.overflow_add-total c).In-loop-i)
next c =
    let a = c.args in
    ap₂ ◌+ℤ◌ c.loop-i.invariant
    (same c.counted-total.result c.counted-total.type_inv
    ∙ c.counted-total.ensures
    ∙ ap (cond (mark_at a.self.now.struck.now a.k (i (goal.at.overflow_add-total c).In-loop-i)) (pos 0))
    (kept w64 (step (goal.at.overflow_add-total c).In-loop-i) (next_step (goal.at.overflow_add-total c).In-loop-i)))
    ∙ sym (sum_next (i (goal.at.overflow_add-total c).In-loop-i) (counts (goal.at.overflow_add-total c).In-loop-i))

pub overflow_add-total : goal.overflow_add-total
overflow_add-total c = fits (next c) (next_small (goal.at.overflow_add-total c).In-loop-i)

pub loop-i-preserved : goal.loop-i-preserved
loop-i-preserved c = kept w64 (next c) (next_small (goal.at.loop-i-preserved c).In-loop-i)

pub returns : goal.returns
unfolding step_sum
returns c =
    let l = c.loop-i in
    let a = c.args in
    let all : l.i ≡ a.self.now.last - a.column = omega arith in
    l.invariant ∙ ap (λ m. sum m (counted_at a.self.now.struck.now a.k (step_of a.self.now.ticks.now a.self.now.last a.block a.column))) all
