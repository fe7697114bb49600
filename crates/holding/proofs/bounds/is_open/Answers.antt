-- `bounds::is_open` meets its contract: a session fits exactly if its frame and its rows do.
use native.Mathlib.Omega.{arith}
use Rattle.chain.specs.Decides.{decided_no}
use Rattle.holding.specs.Bounds.{FrameFits}
use Rattle.holding.specs.Fitted.{fits, frame, rows}
use Rattle.holding.proofs.bounds.is_open.Goals as goal
use Rattle.holding.proofs.bounds.is_open.Goals.{Else-not-frame_fits}

pub returns-then-not-frame_fits : goal.returns-then-not-frame_fits
returns-then-not-frame_fits c = decided_no (λ h. c.frame_fits.ensures.when_no c.if-not-frame_fits.true (frame h))

-- the frame fits
framed : (c : Else-not-frame_fits) → let s = c.args in
    FrameFits s.last s.closeness s.total s.own.now s.matrix.now s.right_hand.now s.mean.now
framed c = c.frame_fits.ensures.when_yes c.if-not-frame_fits.false

pub overflow_mul-last : goal.overflow_mul-last
overflow_mul-last c = omega (arith, (framed c).years)

pub overflow_add-last : goal.overflow_add-last
overflow_add-last c = omega (arith, (framed c).years)

pub rows_fit-requires : goal.rows_fit-requires
rows_fit-requires c = record { few = omega (arith, (framed c).years) }

pub returns : goal.returns
returns c = record {
  when_yes = λ e. fits (framed (goal.at.returns c).Else-not-frame_fits) (c.rows_fit.ensures.when_yes e);
  when_no = λ e h. c.rows_fit.ensures.when_no e (rows h);
}
