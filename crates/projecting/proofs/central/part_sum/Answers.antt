-- `part_sum` meets its contract. The loop's invariant: the total is that of the first m parts.
use Prim.Native.Nat.{ℕ, ◌+◌, ◌^◌, ◌<◌}
use mathlib.Core.Path.{◌≡◌, sym, ap, ap₂, ◌∙◌}
use mathlib.Core.List.{List}
use native.Mathlib.Omega.{arith}
use lib.IntN.{ℤ, nat_abs, ◌+ℤ◌}
use mir.Syntax.{w64}
use mir.Val.{to_z}
use Rattle.integers.specs.Bits.{stored, read}
use Rattle.integers.specs.Size.{fits, kept}
use Rattle.integers.specs.Sum.{sum_zero, sum_next}
use Rattle.definitions.specs.Words.{part}
use Rattle.projecting.specs.Central.{parts_from}
use Rattle.projecting.proofs.CentralLaws.{parts_small}
use Rattle.projecting.proofs.central.part_sum.Goals as goal
use Rattle.projecting.proofs.central.part_sum.Goals.{In-loop-m}

pub loop-m-init : goal.loop-m-init
loop-m-init c = sym (sum_zero _)

-- the next part, as it is read
module _ (c : In-loop-m) where
  abbrev mean : List ℤ
  mean = c.args.mean.now

  abbrev first : ℕ
  first = c.args.first

  abbrev m : ℕ
  m = c.loop-m.m

  more : m < c.args.count
  more = c.loop-m-test.true

  inside : first + m < 31
  inside = omega (arith, more, c.requires.inside)

  next : to_z w64 c.loop-m.total-bits +ℤ stored (part mean (first + m)) ≡ parts_from mean first (m + 1)
  next =
      ap₂ ◌+ℤ◌ c.loop-m.invariant (read (part mean (first + m)) (omega (arith, c.requires.small m more)))
      ∙ sym (sum_next m (λ i. part mean (first + i)))

  next_small : nat_abs (parts_from mean first (m + 1)) < 2 ^ 63
  next_small = omega (arith, parts_small c.requires (m + 1) (omega (arith, more)), more, c.requires.few)

pub overflow_add-total-in-loop-m : goal.overflow_add-total-in-loop-m
overflow_add-total-in-loop-m c =
    let in_loop_m = (goal.at.overflow_add-total-in-loop-m c).In-loop-m in
    fits (next in_loop_m) (next_small in_loop_m)

pub loop-m-preserved : goal.loop-m-preserved
loop-m-preserved c =
    let in_loop_m = (goal.at.loop-m-preserved c).In-loop-m in
    kept w64 (next in_loop_m) (next_small in_loop_m)

pub returns : goal.returns
returns c =
    let l = c.loop-m in
    let a = c.args in
    let all : l.m ≡ a.count = omega (arith, l.auto.m-end, c.loop-m-test.false) in
    record { is = l.invariant ∙ ap (parts_from a.mean.now a.first) all }
