-- `sweep_lent` meets its contract: 21 and 12 come before the sweeps of an open file.
use mathlib.Core.Path.{refl}
use native.Mathlib.Omega.{arith}
use Rattle.layout.specs.CheckLaws.{within_low, within_high}
use Rattle.steps.specs.Sweeps.{started}
use Rattle.holding.specs.State.{Held, held_at}
use Rattle.holding.specs.Fitted.{Framed, asks_residues, held_inside, fits, frame, rows}
use Rattle.sweeping.specs.SweepLaws.{sweeps_closed, sweeps_outside}
use Rattle.sweeping.proofs.sweep_lent.Goals as goal
use Rattle.sweeping.proofs.sweep_lent.Goals.{
  Else-not-frame_fits,
  then-n-lt1-via-then-n-lt1,
  then-n-lt1-via-else-n-lt1+then-n-gt-SWEEP_LIMIT,
}

pub returns-then-not-frame_fits : goal.returns-then-not-frame_fits
returns-then-not-frame_fits c = rw c.at.ensures (sweeps_closed _ _ (λ h. c.frame_fits.ensures.when_no c.if-not-frame_fits.true (frame h)))

-- the session that is lent
abbrev S : Else-not-frame_fits → Held
S c = let a = c.args in held_at a.last a.closeness a.total.now a.own.now a.matrix.now a.right_hand.now a.mean.now

-- the frame fits
framed : (c : Else-not-frame_fits) → Framed (S c)
framed c = c.frame_fits.ensures.when_yes c.if-not-frame_fits.false

pub residues-requires : goal.residues-requires
residues-requires c = let f = framed (goal.at.residues-requires c).Else-not-frame_fits in asks_residues f (held_inside f)

pub returns-in_default : goal.returns-in_default
returns-in_default c = rw c.at-in_default.ensures (sweeps_closed _ _ (λ h. c.in_default.ensures (rows h)))

pub returns-then-n-lt1 : goal.returns-then-n-lt1
returns-then-n-lt1 c =
    let at = goal.at.returns-then-n-lt1 c in
    let open_file = fits (framed at.Else-not-frame_fits) c.in-Some.ensures.fit in
    rw c.at-then-n-lt1.ensures (sweeps_outside _ _ open_file (elim c.then-n-lt1.branch [
      | then-n-lt1-via-then-n-lt1 w ↦ within_low 4096 refl w.if-n-lt1.true
      | then-n-lt1-via-else-n-lt1+then-n-gt-SWEEP_LIMIT w ↦ within_high 1 refl w.if-n-gt-SWEEP_LIMIT.true
    ]))

pub sweep_on-requires : goal.sweep_on-requires
sweep_on-requires c =
    let at = goal.at.sweep_on-requires c in
    let f = framed at.Else-not-frame_fits in
    record {
      fits = fits f c.in-Some.ensures.fit;
      mean = refl;
      holds_mean = started (S at.Else-not-frame_fits).figures _ _ (held_inside f) c.in-Some.ensures.are;
      from = omega (arith, c.if-n-lt1.false);
      to = omega (arith, c.if-n-gt-SWEEP_LIMIT.false);
    }

pub returns : goal.returns
returns c = c.sweep_on.ensures
