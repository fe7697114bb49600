-- `striking::steps::check_step` meets its contract: 14, 26 and 27 one after another.
use Prim.Native.Nat.{ℕ, ◌≤◌, ◌<◌}
use mathlib.Core.Path.{◌≡◌, sym, ap, ◌∙◌}
use mathlib.Core.Bool.{true, false, not}
use native.Mathlib.Omega.{arith}
use borrow.Author.Tests.{eq-eqb, ne_eqb}
use lib.Dec.{eqb}
use Rattle.definitions.specs.Strikes.{step, is_step, left_beside}
use Rattle.definitions.specs.Layout.{parts}
use Rattle.definitions.specs.Kept.{steps_of, part_of_step}
use Rattle.laws.proofs.Marks.{steps_few}
use Rattle.observations.specs.Arrays.{at, unmarked}
use Rattle.striking.specs.Steps.{OfStep, mark_of}
use Rattle.striking.proofs.StepLaws.{placed, mark_inside, left_counted, no_channel, no_step, struck_already, last_left, may_strike}
use Rattle.striking.proofs.steps.check_step.Goals as goal
use Rattle.striking.proofs.steps.check_step.Goals.{After-left_of, After-part_of-k, After-place_of, Else-channel-gt1, Else-not-is_step}

pub returns-then-channel-gt1 : goal.returns-then-channel-gt1
returns-then-channel-gt1 c =
    let a = c.args in
    rw c.at.ensures (no_channel a.last a.channel a.year a.column a.marks.now c.if-channel-gt1.true)

channel : (c : Else-channel-gt1) → c.args.channel ≤ 1
channel c = omega (arith, c.if-channel-gt1.false)

pub returns-then-not-is_step : goal.returns-then-not-is_step
returns-then-not-is_step c =
    let a = c.args in
    rw c.at-then-not-is_step.ensures (no_step a.last a.channel a.year a.column a.marks.now (channel (goal.at.returns-then-not-is_step c).Else-channel-gt1)
    (sym c.is_step.ensures ∙ c.if-not-is_step.true))

-- there is such a step
module _ (c : Else-not-is_step) where
  there : is_step c.args.last (step c.args.channel c.args.year c.args.column) ≡ true
  there = sym c.is_step.ensures ∙ c.if-not-is_step.false

  of_step : OfStep c.args.last c.args.channel c.args.year c.args.column
  of_step = record { few = c.requires.few; of_channel = channel (goal.at.place_of-requires c).Else-channel-gt1; there = there }

pub place_of-requires : goal.place_of-requires
place_of-requires c = of_step c

pub bounds-marks-place_of : goal.bounds-marks-place_of
bounds-marks-place_of c = omega (arith, c.place_of.ensures, mark_inside (of_step (goal.at.bounds-marks-place_of c).Else-not-is_step))

-- the mark that is read is the step's
mark_is : (c : After-place_of) → let a = c.args in
    not (eqb (at a.marks.now c.place_of.result) 0) ≡ mark_of a.last a.marks.now (step a.channel a.year a.column)
mark_is c = let a = c.args in ap (λ n. not (eqb (at a.marks.now n) 0)) c.place_of.ensures

pub returns-then-marks-place_of-ne0 : goal.returns-then-marks-place_of-ne0
returns-then-marks-place_of-ne0 c =
    let a = c.args in
    rw c.at-then-marks-place_of-ne0.ensures
    (struck_already a.last a.channel a.year a.column a.marks.now (channel (goal.at.returns-then-marks-place_of-ne0 c).Else-channel-gt1)
    (there (goal.at.returns-then-marks-place_of-ne0 c).Else-not-is_step)
    (sym (mark_is (goal.at.returns-then-marks-place_of-ne0 c).After-place_of) ∙ ap not (ne_eqb _ 0 c.if-marks-place_of-ne0.true)))

pub part_of-k-requires : goal.part_of-k-requires
part_of-k-requires c = of_step (goal.at.part_of-k-requires c).Else-not-is_step

-- its part, and how many of its steps are left
module _ (c : After-part_of-k) where
  abbrev J : ℕ
  J = c.args.last

  part_is : c.part_of-k.result ≡ part_of_step J (step c.args.channel c.args.year c.args.column)
  part_is = c.part_of-k.ensures

  below : c.part_of-k.result < parts J
  below =
      let a = c.args in
      omega (arith, part_is, (placed J a.channel a.year a.column (of_step (goal.at.steps_of-requires c).Else-not-is_step)).below)

pub steps_of-requires : goal.steps_of-requires
steps_of-requires c = record { few = c.requires.few; below = below c }

pub left_of-requires : goal.left_of-requires
left_of-requires c =
    let after_part_of_k = (goal.at.left_of-requires c).After-part_of-k in
    let few = c.requires.few in
    record {
      part_there = omega (arith, below after_part_of_k, few);
      few = omega (arith, c.steps_of.ensures, steps_few (J after_part_of_k) c.part_of-k.result few);
    }

module _ (c : After-left_of) where
  count : OfStep c.args.last c.args.channel c.args.year c.args.column → c.left_of.result ≡ left_beside c.args.last (mark_of c.args.last c.args.marks.now)
      (step c.args.channel c.args.year c.args.column)
  count of_step =
      c.left_of.ensures
      ∙ ap (unmarked c.args.marks.now c.part_of-k.result) c.steps_of.ensures
      ∙ ap (λ k. unmarked c.args.marks.now k (steps_of c.args.last k)) c.part_of-k.ensures
      ∙ left_counted c.args.marks.now of_step

  unmarked_yet : mark_of c.args.last c.args.marks.now (step c.args.channel c.args.year c.args.column) ≡ false
  unmarked_yet =
      let a = c.args in
      sym (ap (λ n. not (eqb (at a.marks.now n) 0)) c.place_of.ensures) ∙ ap not (eq-eqb _ 0 c.if-marks-place_of-ne0.false)

pub returns-then-left_of-eq1 : goal.returns-then-left_of-eq1
returns-then-left_of-eq1 c =
    let after_left_of = (goal.at.returns-then-left_of-eq1 c).After-left_of in
    let s = c.args in
    rw c.at-then-left_of-eq1.ensures (last_left s.last s.channel s.year s.column s.marks.now (channel (goal.at.returns-then-left_of-eq1 c).Else-channel-gt1)
    (there (goal.at.returns-then-left_of-eq1 c).Else-not-is_step)
    (unmarked_yet after_left_of) (count after_left_of (of_step (goal.at.returns-then-left_of-eq1 c).Else-not-is_step)) c.if-left_of-eq1.true)

pub returns : goal.returns
returns c =
    let after_left_of = (goal.at.returns c).After-left_of in
    let s = c.args in
    may_strike s.last s.channel s.year s.column s.marks.now (channel (goal.at.returns c).Else-channel-gt1) (there (goal.at.returns c).Else-not-is_step)
    (unmarked_yet after_left_of) (count after_left_of (of_step (goal.at.returns c).Else-not-is_step)) c.if-left_of-eq1.false
