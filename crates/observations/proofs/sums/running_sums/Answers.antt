-- `observations::sums::running_sums` meets its contract. The loop's invariant: the total is small, and the sums of whatever the terms are
-- are there.
use Rattle.std.proofs.Common.{ℤ, ◌≡◌, ◌∙◌, sym, ap, ap₂, ◌+◌, ◌*◌, ◌^◌, ◌≤◌, ◌+ℤ◌, nat_abs, arith, to_z, w64}
use Rattle.integers.specs.Bits.{stored, same}
use Rattle.integers.specs.Size.{nat_abs-+, kept}
use Rattle.integers.specs.Sum.{sum_next}
use Rattle.laws.proofs.RunningSums.{summed_none, summed_next}
use Rattle.observations.proofs.sums.running_sums.Goals as goal

pub loop-n-init : goal.loop-n-init
loop-n-init g c = (omega arith, λ f are. summed_none f)

pub loop-n-preserved : goal.loop-n-preserved
loop-n-preserved g c =
    let n = c.loop-n.n in
    let z = c.term-total.result in
    let total : ℤ = to_z w64 c.loop-n.total-bits in
    let next : total +ℤ stored z ≡ total +ℤ z = ap (λ y. total +ℤ y) (same z c.term-total.type_inv) in
    let term_small : nat_abs z ≤ 2 ^ 58 = c.requires.small n z c.loop-n-test.true c.term-total.ensures in
    let small : nat_abs (total +ℤ z) ≤ (n + 1) * 2 ^ 58 = omega (arith, nat_abs-+ total z, c.loop-n.invariant.0) in
    let stays = kept w64 next (omega (arith, small, c.requires.few)) in (
      rw stays small,
      λ f are. let before = c.loop-n.invariant.1 f are in
          summed_next before (omega (arith, c.requires.few))
          (stays ∙ ap₂ ◌+ℤ◌ before.at_hand (are n z c.loop-n-test.true c.term-total.ensures) ∙ sym (sum_next n f)),
    )

pub returns : goal.returns
returns g c f are n few = (c.loop-n.invariant.1 f are).there n (omega arith)
