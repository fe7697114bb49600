-- `strike_lent` meets its contract: after 21 and the check of the step it is marked, and what is left is held with the prior means.
use Prim.Native.Nat.{ℕ, ◌≤◌}
use mathlib.Core.Path.{◌≡◌, sym, subst, ◌∙◌}
use mathlib.Core.List.{List}
use Rattle.std.proofs.Common.{Ok, Err}
use native.Mathlib.Omega.{arith}
use lib.ListN.{set}
use Rattle.definitions.specs.Refusals.{clear}
use Rattle.definitions.specs.Strikes.{Step, step, strike_check}
use Rattle.observations.specs.declared.Observations.{Observations}
use Rattle.observations.specs.Arrays.{observations_at}
use Rattle.chain.specs.Arrays.{figures_of}
use Rattle.holding.specs.State.{Held, Fits, held_at, held_in}
use Rattle.striking.specs.Strikes.{Strikes}
use Rattle.striking.specs.Steps.{OfStep, mark_of}
use Rattle.striking.proofs.StepLaws.{mark_inside, of_clear}
use Rattle.striking.specs.Anew.{Anew}
use Rattle.striking.proofs.StrikeLaws.{strikes_closed, strikes_refused, check_agrees, done}
use Rattle.striking.proofs.strike_lent.Goals as goal
use Rattle.striking.proofs.strike_lent.Goals.{Else-not-is_open, In_ok-check_step, Start}

pub returns-then-not-is_open : goal.returns-then-not-is_open
returns-then-not-is_open c variances = rw c.at.ensures (strikes_closed _ _ _ (c.is_open.ensures.when_no c.if-not-is_open.true))

-- the session that is lent
module _ (c : Start) where
  abbrev S : Held
  S = let a = c.args in held_in a.held.now a.own.now a.matrix.now a.right_hand.now a.mean.now

  abbrev O : List ℕ → Observations
  O variances = let a = c.args in observations_at a.ticks.now a.weights.now variances a.struck.now

  years_of : Fits S → S.figures.last ≤ 15
  unfolding figures_of
  years_of h = h.fitting.years

-- it is open
module _ (c : Else-not-is_open) where
  abbrev opened : Start
  opened = (goal.at.overflow_cast-last c).Start

  open_file : Fits (S opened)
  open_file = c.is_open.ensures.when_yes c.if-not-is_open.false

  years : (S opened).figures.last ≤ 15
  years = years_of opened open_file

pub overflow_cast-last : goal.overflow_cast-last
overflow_cast-last c = omega (arith, years c)

pub left_in-left-requires : goal.left_in-left-requires
left_in-left-requires c = record { few = years c }

pub check_step-requires : goal.check_step-requires
check_step-requires c = record { few = years (goal.at.check_step-requires c).Else-not-is_open }

pub returns-in_err-check_step : goal.returns-in_err-check_step
returns-in_err-check_step c variances =
    let at = goal.at.returns-in_err-check_step c in
    let a = c.args in
    let opened = open_file at.Else-not-is_open in
    let refusal = c.in_err-check_step.field-0.0 in
    let handed : c.from_residual.result ≡ Err refusal = grind arith in
    rw handed (strikes_refused (step a.channel a.year a.column) (S at.Start) (O at.Start variances) opened refusal
    (sym (c.in_err-check_step.ensures
    ∙ check_agrees (S at.Start) (O at.Start variances) opened c.left_in-left.ensures c.marks_inside-marks.ensures
    (step a.channel a.year a.column))))

-- the step is checked by the marks that are inside their limits: no refusal is told
module _ (c : In_ok-check_step) where
  abbrev from : Start
  from = (goal.at.place_of-requires c).Start

  abbrev d : Step
  d = let a = c.args in step a.channel a.year a.column

  clear_check : strike_check (S from).figures.last (mark_of (S from).figures.last c.marks_inside-marks.result) d ≡ clear
  clear_check = sym c.in_ok-check_step.ensures

  of_step : let a = c.args in OfStep (S from).figures.last a.channel a.year a.column
  of_step =
      let a = c.args in
      of_clear (S from).figures.last (mark_of (S from).figures.last c.marks_inside-marks.result) a.channel a.year a.column
      (years (goal.at.place_of-requires c).Else-not-is_open) clear_check

pub place_of-requires : goal.place_of-requires
place_of-requires c = of_step c

pub bounds-marks-place_of : goal.bounds-marks-place_of
bounds-marks-place_of c = omega (arith, c.place_of.ensures, mark_inside (of_step (goal.at.bounds-marks-place_of c).In_ok-check_step))

pub made_anew-requires : goal.made_anew-requires
made_anew-requires c = record { few = years (goal.at.made_anew-requires c).Else-not-is_open }

pub returns : goal.returns
returns c variances =
    let at = goal.at.returns c in
    let a = c.args in
    let s = S at.Start in
    let J = s.figures.last in
    let m = c.made_anew.new in
    let opened = open_file at.Else-not-is_open in
    let checked = d at.In_ok-check_step in
    subst (λ n. Strikes checked s (O at.Start variances) (Ok tt)
    (held_at J s.figures.closeness 0 m.own m.matrix m.right_hand m.mean)
    (observations_at m.ticks m.weights variances (set c.marks_inside-marks.result n 1))) (sym c.place_of.ensures)
    (done s (O at.Start variances) opened c.left_in-left.ensures c.marks_inside-marks.ensures
    a.channel a.year a.column (of_step at.In_ok-check_step)
    (sym (check_agrees s (O at.Start variances) opened c.left_in-left.ensures c.marks_inside-marks.ensures checked)
    ∙ clear_check at.In_ok-check_step)
    (subst (λ n. Anew J a.ticks.now a.weights.now (set c.marks_inside-marks.result n 1) m.own m.matrix m.right_hand m.mean
    m.ticks m.weights) c.place_of.ensures c.made_anew.ensures))
