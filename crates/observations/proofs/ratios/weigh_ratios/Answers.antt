-- `observations::ratios::weigh_ratios` meets its contract. The loop's invariant: the years from k on are weighed, and the variances to come
-- after k are added up.
use Prim.Native.Nat.{ℕ, ◌+◌, ◌*◌, ◌-◌, ◌^◌, ◌≤◌, ◌<◌}
use mathlib.Core.Path.{◌≡◌, sym, ap, subst, ◌∙◌}
use mathlib.Core.List.{List}
use native.Mathlib.Omega.{arith}
use Rattle.definitions.specs.Weight.{weight}
use Rattle.observations.specs.Arrays.{at}
use Rattle.observations.specs.Ratios.{ratio_from, WeighedFrom}
use Rattle.observations.proofs.RatioLaws.{ratio_from_next, ratio_from_last, ratio_from_small, weighed_none, weighed_next}
use Rattle.observations.proofs.ratios.weigh_ratios.Goals as goal
use Rattle.observations.proofs.ratios.weigh_ratios.Goals.{In-loop-k}

pub loop-k-init : goal.loop-k-init
loop-k-init c = (sym (ratio_from_last c.args.last (at c.args.variances.now)), weighed_none c.requires)

-- the year before that of the loop, and the sum with its two variances
module _ (c : In-loop-k) where
  abbrev J : ℕ
  J = c.args.last

  abbrev variances : List ℕ
  variances = c.args.variances.now

  abbrev k : ℕ
  k = c.loop-k.k - 1

  year : c.loop-k.k ≡ k + 1
  year = omega (arith, c.loop-k-test.true)

  below : k < J
  below = omega (arith, c.loop-k-test.true)

  few : J ≤ 15
  few = c.requires.few

  sum : c.loop-k.variance + (at variances (k + 1) + at variances (J + 1 + k)) ≡ ratio_from J (at variances) k
  sum =
      ap (λ v. v + (at variances (k + 1) + at variances (J + 1 + k))) (c.loop-k.invariant.0 ∙ ap (ratio_from J (at variances)) year)
      ∙ sym (ratio_from_next J (at variances) k below)

  sum_small : c.loop-k.variance + (at variances (k + 1) + at variances (J + 1 + k)) ≤ 30 * 2 ^ 40
  sum_small = omega (arith, sum, ratio_from_small c.requires k)

pub overflow_add-variance-in-loop-k-4 : goal.overflow_add-variance-in-loop-k-4
overflow_add-variance-in-loop-k-4 c = omega (arith, sum_small (goal.at.overflow_add-variance-in-loop-k-4 c).In-loop-k)

pub loop-k-preserved : goal.loop-k-preserved
loop-k-preserved c =
    let in_loop_k = (goal.at.loop-k-preserved c).In-loop-k in (
      sum in_loop_k,
      weighed_next c.loop-k.invariant.1 (year in_loop_k) (below in_loop_k) (few in_loop_k)
          (c.weight_of.ensures ∙ ap weight (sum in_loop_k)),
    )

pub returns : goal.returns
returns c =
    let l = c.loop-k in
    let a = c.args in
    let none_left : l.k ≡ 0 = omega arith in
    record { all = subst (λ k. WeighedFrom k a.variances.now a.last a.weights.now l.weights) none_left l.invariant.1 }
