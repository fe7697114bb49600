-- `figures::matrix::turned_shares` meets its contract. The loop's invariant: the sums passed are turned.
use Prim.Native.Nat.{◌^◌, ◌<◌}
use mathlib.Core.Path.{◌≡◌, ap, ◌∙◌}
use mathlib.Core.List.{[], ◌∷◌}
use native.Mathlib.Omega.{arith}
use lib.IntN.{ℤ, pos, neg_ℤ, nat_abs, ◌-ℤ◌}
use mir.Syntax.{w64}
use mir.Val.{to_z, of_z}
use Rattle.integers.specs.Size.{fits, kept, nat_abs_neg}
use Rattle.integers.specs.Solver.{ring, ◌⊟◌, ⊖◌, num, ◌≐◌}
use Rattle.definitions.specs.Words.{part}
use Rattle.laws.proofs.Filled.{filled_none, filled_next}
use Rattle.integers.specs.Bits.{read}
use Rattle.figures.proofs.matrix.turned_shares.Goals as goal
use Rattle.figures.proofs.matrix.turned_shares.Goals.{In-loop-n}

pub loop-n-init : goal.loop-n-init
loop-n-init c = filled_none 16 (pos 0) _

module _ (c : In-loop-n) where
  abbrev share : ℤ
  share = part c.args.shares.now c.loop-n.n

  in_array : c.loop-n.n < 16
  in_array = omega (arith, c.loop-n-test.true, c.requires.few)

  share_small : nat_abs share < 2 ^ 40
  share_small = c.requires.small c.loop-n.n (omega (arith, c.loop-n-test.true))

  -- the negation, as the code has it
  turned_is : pos 0 -ℤ to_z w64 (of_z w64 share) ≡ neg_ℤ share
  turned_is = ap (λ z. pos 0 -ℤ z) (read share (omega (arith, share_small))) ∙ ring (share ∷ []) (λ z. num 0 ⊟ z ≐ ⊖ z) tt

  turned_fits : nat_abs (neg_ℤ share) < 2 ^ 63
  turned_fits = omega (arith, share_small, nat_abs_neg share)

pub overflow_sub-turned : goal.overflow_sub-turned
overflow_sub-turned c =
    let in_loop_n = (goal.at.overflow_sub-turned c).In-loop-n in
    fits (turned_is in_loop_n) (turned_fits in_loop_n)

pub loop-n-preserved : goal.loop-n-preserved
loop-n-preserved c =
    let in_loop_n = (goal.at.loop-n-preserved c).In-loop-n in
    filled_next c.loop-n.invariant (in_array in_loop_n) (kept w64 (turned_is in_loop_n) (turned_fits in_loop_n))

pub returns : goal.returns
returns c = record { turns = λ n h. c.loop-n.invariant.front n (omega arith) }
