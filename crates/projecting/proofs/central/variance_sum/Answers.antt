-- `variance_sum` meets its contract. The loop's invariant: the total is that of the first m variances.
use Prim.Native.Nat.{ℕ, ◌+◌, ◌^◌, ◌<◌}
use mathlib.Core.Path.{◌≡◌, sym, ap, ap₂, ◌∙◌}
use native.Mathlib.Omega.{arith}
use Rattle.integers.specs.Total.{total_zero, total_next}
use Rattle.projecting.specs.Central.{variances_from}
use Rattle.projecting.proofs.CentralLaws.{variances_small}
use Rattle.projecting.proofs.central.variance_sum.Goals as goal
use Rattle.projecting.proofs.central.variance_sum.Goals.{After-struct_known-1, In-loop-m}

pub loop-m-init : goal.loop-m-init
loop-m-init c = sym (total_zero _)

inside : (c : In-loop-m) → c.args.first + c.loop-m.m < 31
inside c = omega (arith, c.loop-m-test.true, c.requires)

module _ (c : After-struct_known-1) where
  abbrev m : ℕ
  m = c.loop-m.m

  next : c.loop-m.total + c.kept_variance-next.result.0
      ≡ variances_from c.args.variances.now c.args.first (m + 1)
  next = ap₂ ◌+◌ c.loop-m.invariant c.kept_variance-next.ensures ∙ sym (total_next m _)

  next_small : c.loop-m.total + c.kept_variance-next.result.0 < 2 ^ 64
  next_small =
      omega (arith, next, inside (goal.at.overflow_add-total c).In-loop-m, variances_small c.args.variances.now c.args.first (m + 1))

pub overflow_add-total : goal.overflow_add-total
overflow_add-total c = record { fits = next_small c }

pub loop-m-preserved : goal.loop-m-preserved
loop-m-preserved c = next c

pub returns : goal.returns
returns c =
    let l = c.loop-m in
    let a = c.args in
    let all : l.m ≡ a.count = omega (arith, l.auto.m-end, c.loop-m-test.false) in
    record { is = l.invariant ∙ ap (variances_from a.variances.now a.first) all }
