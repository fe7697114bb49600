-- `figures_put` meets its contract: what it makes of the parts of an open file is what the state shows.
use Rattle.std.specs.Prelude.{refl}
use native.Mathlib.Omega.{arith}
use Rattle.holding.specs.Fitted.{frame}
use Rattle.showing.proofs.ShowLaws.{shows_open, shows_closed}
use Rattle.showing.proofs.figures_put.Goals as goal

pub returns-in_default : goal.returns-in_default
returns-in_default c = rw (c.at.ensures, c.in_default.ensures.1.empty) (shows_closed _ c.in_default.ensures.0, refl)

pub front-weights-requires : goal.front-weights-requires
front-weights-requires c =
    (omega arith, record { few = omega (arith, c.in-Some.ensures.all, (frame c.in-Some.ensures.fits).years) })

pub front-targets-requires : goal.front-targets-requires
front-targets-requires c =
    (omega arith, record { few = omega (arith, c.in-Some.ensures.all, (frame c.in-Some.ensures.fits).years) })

pub returns : goal.returns
returns c =
    let open_file = c.in-Some.ensures in
    rw (c.front-weights.ensures, c.front-targets.ensures, open_file.is, open_file.all) (shows_open _ open_file.fits)
