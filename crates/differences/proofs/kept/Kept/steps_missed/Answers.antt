-- `steps_missed` meets its contract. The loop's invariant: the total is that of the part's first i observations.
use Prim.Native.Nat.{ℕ, ◌+◌, ◌*◌, ◌^◌, ◌≤◌, ◌<◌}
use mathlib.Core.Path.{◌≡◌, sym, ap, ap₂, subst, ◌∙◌}
use mathlib.Core.Bool.{false, cond}
use mathlib.Core.List.{List, []}
use native.Mathlib.Omega.{arith}
use lib.Dec.{eqb}
use lib.IntN.{ℤ, pos, nat_abs, ◌+ℤ◌, ◌-ℤ◌, ◌*ℤ◌}
use mir.Syntax.{w64}
use mir.Val.{to_z}
use mir.Facts.{to_z-of_z}
use Rattle.integers.specs.Bits.{stored, same}
use Rattle.integers.specs.Size.{fits, kept}
use Rattle.integers.specs.Sum.{sum, sum_zero, sum_next}
use Rattle.definitions.specs.Observations.{Chain}
use Rattle.definitions.specs.Matrix.{part_by_index}
use Rattle.definitions.specs.Kept.{steps_of}
use Rattle.laws.proofs.Marks.{steps_few}
use Rattle.observations.specs.declared.Observations.{Observations}
use Rattle.observations.specs.Arrays.{observations_at}
use Rattle.observations.specs.Arrays as Arrays
use Rattle.differences.specs.Differences.{left_in, weight_of, observation_of, step_term}
use Rattle.differences.proofs.DifferenceLaws.{step_weight_is, step_weight_small, observation_small, steps_small}
use Rattle.differences.proofs.kept.Kept.steps_missed.Invariants.{term}
use Rattle.differences.proofs.kept.Kept.steps_missed.Goals as goal
use Rattle.differences.proofs.kept.Kept.steps_missed.Goals.{After-observation, After-weighed-total, In-loop-i}

pub steps_of-count-requires : goal.steps_of-count-requires
steps_of-count-requires c = record { few = c.args.self.now.few; below = c.requires.below }

pub left_of-left-requires : goal.left_of-left-requires
left_of-left-requires c =
    record {
      part_there = omega (arith, c.args.self.now.few, c.requires.below);
      few = rw c.steps_of-count.ensures (steps_few c.args.self.now.last c.args.k c.args.self.now.few);
    }

pub kept_weight-weight-requires : goal.kept_weight-weight-requires
kept_weight-weight-requires c = omega (arith, c.args.self.now.few, c.requires.below)

pub loop-i-init : goal.loop-i-init
loop-i-init c = λ variances. sym (sum_zero _)

-- the next observation
module _ (c : In-loop-i) where
  abbrev J : ℕ
  J = c.args.self.now.last

  abbrev k : ℕ
  k = c.args.k

  -- the part, as it is read
  abbrev v : ℤ
  v = stored c.args.value

  held : v ≡ c.args.value
  held = to_z-of_z c.ranges.value

  small : nat_abs v ≤ 2 ^ 26
  small = rw held c.requires.small

  abbrev i : ℕ
  i = c.loop-i.i

  abbrev o : List ℕ → Observations
  o variances = observations_at c.args.self.now.ticks.now c.args.self.now.weights.now variances c.args.self.now.struck.now

  abbrev terms : List ℕ → ℕ → ℤ
  terms variances = step_term (left_in J (o variances)) (part_by_index J k) v

  years : J ≤ 15
  years = c.args.self.now.few

  below : k < 2 * J + 1
  below = c.requires.below

  there : i < steps_of J k
  there = subst (λ n. i < n) c.steps_of-count.ensures c.loop-i-test.true

  next_small : (variances : List ℕ) → nat_abs (sum (i + 1) (terms variances)) < 2 ^ 63
  next_small variances =
      omega (arith, steps_small J (o variances) years k below v small (i + 1) (omega (arith, there)))

pub observation-requires : goal.observation-requires
observation-requires c =
    let in_loop_i = (goal.at.observation-requires c).In-loop-i in
    record { below = below in_loop_i; there = there in_loop_i }

-- its weight and itself, as they are read
module _ (c : After-observation) (variances : List ℕ) where
  abbrev in_loop_i : In-loop-i
  in_loop_i = (goal.at.weighed-total-requires c).In-loop-i

  abbrev left : Chain
  left = left_in (J in_loop_i) (o in_loop_i variances)

  weight_is : c.step_weight.result ≡ weight_of left (part_by_index (J in_loop_i) (k in_loop_i)) (i in_loop_i)
  weight_is =
      let marks = c.args.self.now.struck.now in
      let counted : c.left_of-left.result ≡ Arrays.unmarked marks (k in_loop_i) (steps_of (J in_loop_i) (k in_loop_i)) =
      c.left_of-left.ensures ∙ ap (Arrays.unmarked marks (k in_loop_i)) c.steps_of-count.ensures in
      c.step_weight.ensures
      ∙ ap₂ (λ n w. cond (cond (eqb n 0) false (Arrays.mark_at marks (k in_loop_i) (i in_loop_i))) 0 w) counted c.kept_weight-weight.ensures
      ∙ step_weight_is (J in_loop_i) (o in_loop_i variances) (k in_loop_i) (i in_loop_i) (below in_loop_i) (there in_loop_i)

  observed_is : stored c.observation.result ≡ observation_of left (part_by_index (J in_loop_i) (k in_loop_i)) (i in_loop_i)
  observed_is = same _ c.observation.type_inv ∙ c.observation.ensures.is c.args.self.now.weights.now variances c.args.self.now.struck.now

pub weighed-total-requires : goal.weighed-total-requires
weighed-total-requires c =
    let in_loop_i = (goal.at.weighed-total-requires c).In-loop-i in
    record {
      light = rw (weight_is c [])
          (step_weight_small (J in_loop_i) (o in_loop_i []) (years in_loop_i) (k in_loop_i) (i in_loop_i) (below in_loop_i) (there in_loop_i));
      part_small = omega (arith, small in_loop_i);
      observed_small =
          rw (observed_is c [])
          (omega (arith, observation_small (J in_loop_i) (o in_loop_i []) (years in_loop_i) (k in_loop_i) (i in_loop_i) (below in_loop_i) (there in_loop_i)));
    }

next : (c : After-weighed-total) (variances : List ℕ)
    → to_z w64 c.loop-i.total-bits +ℤ stored c.weighed-total.result
    ≡ sum (i (goal.at.overflow_add-total c).In-loop-i + 1) (terms (goal.at.overflow_add-total c).In-loop-i variances)
next c variances =
    ap₂ ◌+ℤ◌ (c.loop-i.invariant variances)
    (same _ c.weighed-total.type_inv
    ∙ c.weighed-total.ensures
    ∙ ap₂ (λ w z. pos w *ℤ z) (weight_is (goal.at.overflow_add-total c).After-observation variances)
    (ap (λ z. v (goal.at.overflow_add-total c).In-loop-i -ℤ z) (observed_is (goal.at.overflow_add-total c).After-observation variances)))
    ∙ sym (sum_next (i (goal.at.overflow_add-total c).In-loop-i) (terms (goal.at.overflow_add-total c).In-loop-i variances))

pub overflow_add-total : goal.overflow_add-total
overflow_add-total c = fits (next c []) (next_small (goal.at.overflow_add-total c).In-loop-i [])

pub loop-i-preserved : goal.loop-i-preserved
loop-i-preserved c = λ variances. kept w64 (next c variances) (next_small (goal.at.loop-i-preserved c).In-loop-i variances)

pub returns : goal.returns
returns c =
    let at = c.loop-i in
    let a = c.args in
    let all : at.i ≡ steps_of a.self.now.last a.k = omega (arith, c.steps_of-count.ensures) in
    record {
      is = λ variances.
          at.invariant variances
          ∙ ap₂ (λ n z. sum n (term a.self.now.ticks.now a.self.now.weights.now a.self.now.struck.now a.self.now.last a.k z variances)) all
          (to_z-of_z c.ranges.value);
    }
