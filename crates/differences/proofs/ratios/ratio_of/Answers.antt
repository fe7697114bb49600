-- `ratio_of` meets its contract. The loop's invariant: the total is that of the first n differences.
use Prim.Native.Nat.{ℕ, ◌+◌, ◌*◌, ◌-◌, ◌^◌, ◌<◌}
use mathlib.Core.Path.{◌≡◌, sym, ap, ap₂, ◌∙◌}
use mathlib.Core.List.{List}
use native.Mathlib.Omega.{arith}
use lib.IntN.{ℤ, nat_abs, ◌+ℤ◌, ◌-ℤ◌}
use mir.Syntax.{w64}
use mir.Val.{to_z}
use Rattle.integers.specs.Bits.{stored, read}
use Rattle.integers.specs.Size.{nat_abs--, fits, kept}
use Rattle.integers.specs.Sum.{sum, sum_zero, sum_next}
use Rattle.definitions.specs.Words.{part}
use Rattle.differences.proofs.DifferenceLaws.{ratio_small}
use Rattle.differences.proofs.ratios.ratio_of.Invariants.{difference}
use Rattle.differences.proofs.ratios.ratio_of.Goals as goal
use Rattle.differences.proofs.ratios.ratio_of.Goals.{In-loop-n}

pub overflow_sub-count : goal.overflow_sub-count
overflow_sub-count c = omega (arith, c.requires.below)

pub loop-n-init : goal.loop-n-init
loop-n-init c = sym (sum_zero _)

-- the next two parts, as they are read
module _ (c : In-loop-n) where
  abbrev mean : List ℤ
  mean = c.args.mean.now

  abbrev J : ℕ
  J = c.args.last

  abbrev d : ℕ
  d = c.args.d

  abbrev n : ℕ
  n = c.loop-n.n

  more : n < J - d
  more = c.loop-n-test.true

  inside : J + 1 + d + n < 31
  inside = omega (arith, more, c.requires.few, c.requires.below)

  part_at : (k : ℕ) → k < 2 * J + 1 → stored (part mean k) ≡ part mean k
  part_at k below = read (part mean k) (omega (arith, c.requires.small k below))

  step : stored (part mean (d + 1 + n)) -ℤ stored (part mean (J + 1 + d + n)) ≡ difference mean J d n
  step = ap₂ ◌-ℤ◌ (part_at (d + 1 + n) (omega (arith, more))) (part_at (J + 1 + d + n) (omega (arith, more)))

  step_small : nat_abs (difference mean J d n) < 2 ^ 63
  step_small =
      omega (
        arith,
        nat_abs-- (part mean (d + 1 + n)) (part mean (J + 1 + d + n)),
        c.requires.small (d + 1 + n) (omega (arith, more)),
        c.requires.small (J + 1 + d + n) (omega (arith, more)),
      )

  next : to_z w64 c.loop-n.total-bits +ℤ stored (stored (part mean (d + 1 + n)) -ℤ stored (part mean (J + 1 + d + n)))
      ≡ sum (n + 1) (difference mean J d)
  next = ap₂ ◌+ℤ◌ c.loop-n.invariant (kept w64 step step_small) ∙ sym (sum_next n (difference mean J d))

  next_small : nat_abs (sum (n + 1) (difference mean J d)) < 2 ^ 63
  next_small = omega (arith, ratio_small J mean c.requires.small d (n + 1) (omega (arith, more)), more, c.requires.few)

pub overflow_add-total : goal.overflow_add-total
overflow_add-total c = omega (arith, inside c)

pub overflow_sub-total : goal.overflow_sub-total
overflow_sub-total c =
    let in_loop_n = (goal.at.overflow_sub-total c).In-loop-n in
    fits (step in_loop_n) (step_small in_loop_n)

pub overflow_add-total-in-loop-n-5 : goal.overflow_add-total-in-loop-n-5
overflow_add-total-in-loop-n-5 c =
    let in_loop_n = (goal.at.overflow_add-total-in-loop-n-5 c).In-loop-n in
    fits (next in_loop_n) (next_small in_loop_n)

pub loop-n-preserved : goal.loop-n-preserved
loop-n-preserved c =
    let in_loop_n = (goal.at.loop-n-preserved c).In-loop-n in
    kept w64 (next in_loop_n) (next_small in_loop_n)

pub returns : goal.returns
returns c =
    let l = c.loop-n in
    let a = c.args in
    let all : l.n ≡ a.last - a.d = omega arith in
    l.invariant ∙ ap (λ m. sum m (difference a.mean.now a.last a.d)) all
