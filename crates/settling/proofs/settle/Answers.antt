-- Each branch by the answer that led there.
use Rattle.std.proofs.Common.{◌<◌, ◌≡◌, sym, ap, ◌∙◌, arith, length}
use Rattle.definitions.specs.Layout.{Bytes}
use Rattle.definitions.specs.Strikes.{figures_left}
use Rattle.definitions.specs.Machine.{empty, map_state}
use Rattle.laws.proofs.Printed.{opening, long_text, refused_text}
use Rattle.holding.specs.State.{state_of, kept_with, session_state}
use Rattle.opening.specs.Opens.{of_open, opens_to}
use Rattle.sweeping.specs.Sweeps.{sweeps_to}
use Rattle.session.specs.declared.Session.{Session}
use Rattle.session.specs.Value.{held_by}
use Rattle.settling.specs.Settles.{opens_as_file, swept_as_file, held_figures, settles_by, settles_swept}
use Rattle.settling.proofs.settle.Goals as goal
use Rattle.settling.proofs.settle.Goals.{After-open-opening}

-- the machine's answer and state
module _ (c : After-open-opening) where
  abbrev bytes : Bytes
  bytes = c.args.given.now

  short : length bytes < 2807
  short = omega (arith, c.if-given-ge-ROOM.false)

  -- nothing is open before
  abbrev before : Session
  before = c.empty-session.result

  none : session_state before.observations (held_by before) ≡ empty
  none = ap (map_state (kept_with before.observations)) c.empty-session.ensures

  open_answer : of_open c.open-opening.result.answer ≡ (opening bytes).answer
  open_answer =
      c.open-opening.ensures.answer
      ∙ ap (λ st. (opens_to st bytes).answer) none
      ∙ ap (λ x. x.answer) (opens_as_file bytes)

  open_state : state_of (held_by c.open-opening.result.session) ≡ map_state figures_left (opening bytes).state
  open_state =
      let after = c.open-opening.result.session in
      held_figures after.observations (held_by after) (opening bytes).state
      (c.open-opening.ensures.state ∙ ap (λ st. (opens_to st bytes).state) none ∙ ap (λ x. x.state) (opens_as_file bytes))

pub returns-then-given-ge-ROOM : goal.returns-then-given-ge-ROOM
returns-then-given-ge-ROOM c =
    let given = c.args.given.now in
    rw c.at.ensures (settles_by given _ (long_text given (omega (arith, c.if-given-ge-ROOM.true))))

pub returns-in-Err : goal.returns-in-Err
returns-in-Err c =
    let after_open_opening = (goal.at.returns-in-Err c).After-open-opening in
    let given = bytes after_open_opening in
    settles_by given _ (refused_text given (short after_open_opening) (sym (ap of_open c.in-Err.is) ∙ open_answer after_open_opening))

pub returns-in-Ok : goal.returns-in-Ok
returns-in-Ok c =
    let after_open_opening = (goal.at.returns-in-Ok c).After-open-opening in
    let given = bytes after_open_opening in
    settles_swept given c.sweep.result (short after_open_opening)
    (sym (ap of_open c.in-Ok.is) ∙ open_answer after_open_opening)
    (c.sweep.ensures.sweeps.answer ∙ ap (λ st. (sweeps_to st 4096).answer) (open_state after_open_opening) ∙ ap (λ x. x.answer) (swept_as_file given))
    (c.sweep.ensures.sweeps.state ∙ ap (λ st. (sweeps_to st 4096).state) (open_state after_open_opening) ∙ ap (λ x. x.state) (swept_as_file given))
