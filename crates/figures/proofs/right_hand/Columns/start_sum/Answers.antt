-- `figures::right_hand::Columns::start_sum` meets its contract. The loop's invariant: the total is that of the years before i.
use Prim.Native.Nat.{ℕ, ◌+◌, ◌*◌, ◌^◌, ◌≤◌, ◌<◌}
use mathlib.Core.Path.{◌≡◌, sym, ap, ap₂, ◌∙◌}
use mathlib.Core.Bool.{not, cond}
use mathlib.Core.List.{List}
use native.Mathlib.Omega.{arith}
use lib.IntN.{ℤ, pos, nat_abs, ◌+ℤ◌}
use lib.Dec.{eqb}
use mir.Syntax.{w64}
use mir.Val.{to_z}
use Rattle.integers.specs.Size.{fits, kept}
use Rattle.integers.specs.Sum.{sum, sum_zero, sum_next}
use Rattle.definitions.specs.Words.{part}
use Rattle.definitions.specs.Layout.{cells, row_start}
use Rattle.laws.proofs.Cells.{cell_below}
use Rattle.integers.specs.Bits.{stored, read, same}
use Rattle.observations.specs.Arrays
use Rattle.figures.specs.Sums.{Logs, counted_at, start_sum}
use Rattle.figures.specs.SumLaws.{row_at, sum_small, counted_small}
use Rattle.figures.proofs.right_hand.Columns.start_sum.Goals as goal
use Rattle.figures.proofs.right_hand.Columns.start_sum.Goals.{After-counted-total, In-loop-i}

pub loop-i-init : goal.loop-i-init
loop-i-init c = sym (sum_zero _)

-- the next logarithm, as it is read
module _ (c : In-loop-i) where
  abbrev i : ℕ
  i = c.loop-i.i

  abbrev J : ℕ
  J = c.args.self.now.last

  abbrev at : ℕ
  at = Arrays.at c.args.self.now.starts i

  abbrev logs : List ℤ
  logs = c.args.self.now.ticks.now

  abbrev small : Logs logs J
  small = c.args.self.now.of_rows.logs_small

  abbrev start : ℕ → ℤ
  start y = part logs (row_start J y)

  more : i < J + 1
  more = c.loop-i-test.true

  at_is : at ≡ row_start J i
  at_is = row_at c.args.self.now.of_rows i (omega (arith, more))

  starts_inside : (y : ℕ) → y ≤ J → row_start J y < 2 * cells J
  starts_inside y few = omega (arith, cell_below J y 0 (omega arith))

  inside : at < 2 * cells J
  inside = omega (arith, at_is, starts_inside i (omega (arith, more)))

  log : stored (part logs at) ≡ start i
  log = read (part logs at) (omega (arith, small.small at inside)) ∙ ap (part logs) at_is

  abbrev counts : ℕ → ℤ
  counts = counted_at c.args.self.now.struck.now 0 start

  next_small : nat_abs (sum (i + 1) counts) < 2 ^ 63
  next_small =
      sum_small (i + 1) counts (omega (arith, more, small.few))
      (λ y below. counted_small c.args.self.now.struck.now 0 start y
      (omega (arith, small.small (row_start J y) (starts_inside y (omega (arith, more))))))

-- with the next logarithm, where it counts
next : (c : After-counted-total)
    → to_z w64 c.loop-i.total-bits +ℤ stored c.counted-total.result
    ≡ sum (i (goal.at.overflow_add-total c).In-loop-i + 1) (counts (goal.at.overflow_add-total c).In-loop-i)
next c =
    let struck = c.args.self.now.struck.now in
    ap₂ ◌+ℤ◌ c.loop-i.invariant
    (same c.counted-total.result c.counted-total.type_inv
    ∙ c.counted-total.ensures
    ∙ ap₂ (λ n z. cond (not (eqb (Arrays.at struck n) 0)) (pos 0) z) (first (i (goal.at.overflow_add-total c).In-loop-i))
    (log (goal.at.overflow_add-total c).In-loop-i))
    ∙ sym (sum_next (i (goal.at.overflow_add-total c).In-loop-i) (counts (goal.at.overflow_add-total c).In-loop-i))
  where
    first : (n : ℕ) → n ≡ 16 * 0 + n
    first n = omega arith

pub overflow_add-total : goal.overflow_add-total
overflow_add-total c = fits (next c) (next_small (goal.at.overflow_add-total c).In-loop-i)

pub loop-i-preserved : goal.loop-i-preserved
loop-i-preserved c = kept w64 (next c) (next_small (goal.at.loop-i-preserved c).In-loop-i)

pub returns : goal.returns
unfolding start_sum
returns c =
    let l = c.loop-i in
    let a = c.args in
    let all : l.i ≡ a.self.now.last + 1 = omega arith in
    l.invariant ∙ ap (λ m. sum m (counted_at a.self.now.struck.now 0 (λ y. part a.self.now.ticks.now (row_start a.self.now.last y)))) all
