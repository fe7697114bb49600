-- `shown::parts_shown` meets its contract: a session fits exactly if its frame and its rows do.
use mathlib.Core.Path.{◌≡◌, refl}
use native.Mathlib.Omega.{arith}
use Rattle.std.proofs.Common.{None}
use Rattle.holding.specs.State.{Held, held_at}
use Rattle.holding.specs.Fitted.{Framed, fits, frame, rows}
use Rattle.showing.proofs.shown.parts_shown.Goals as goal
use Rattle.showing.proofs.shown.parts_shown.Goals.{Else-not-frame_fits}

pub returns-then-not-frame_fits : goal.returns-then-not-frame_fits
returns-then-not-frame_fits c = (λ h. c.frame_fits.ensures.when_no c.if-not-frame_fits.true (frame h), c.requires)

-- the session that is lent
abbrev S : Else-not-frame_fits → Held
S c = let a = c.args in held_at a.last a.closeness a.total a.own.now a.matrix.now a.right_hand.now a.mean.now

framed : (c : Else-not-frame_fits) → Framed (S c)
framed c = c.frame_fits.ensures.when_yes c.if-not-frame_fits.false

pub overflow_mul-count : goal.overflow_mul-count
overflow_mul-count c = omega (arith, (framed c).years)

pub overflow_add-count : goal.overflow_add-count
overflow_add-count c = omega (arith, (framed (goal.at.overflow_add-count c).Else-not-frame_fits).years)

pub matrix_shown-requires : goal.matrix_shown-requires
matrix_shown-requires c =
    record { few = omega (arith, (framed (goal.at.matrix_shown-requires c).Else-not-frame_fits).years); empty = c.requires.empty }

pub returns-in_err-matrix_shown : goal.returns-in_err-matrix_shown
returns-in_err-matrix_shown c =
    let handed : c.from_residual.result ≡ None = grind arith in rw handed (λ h. c.in_err-matrix_shown.ensures.0 (rows h), c.in_err-matrix_shown.ensures.1)

pub returns : goal.returns
returns c =
    let shown = c.in_ok-matrix_shown.ensures in
    record { fits = fits (framed (goal.at.returns c).Else-not-frame_fits) shown.0; all = refl; is = shown.1 }
