-- The place is the definition's.
use Rattle.std.proofs.Common.{◌≡◌, ◌+◌, ◌*◌, ap, ◌∙◌, arith}
use Rattle.std.proofs.Math.Facts.{to_z-of_z}
use mir.Syntax.{w64}
use Rattle.definitions.specs.Layout.{signed, last_year, prior_mean_at}
use Rattle.fields.specs.Fields.{signed_read, signed_outside}
use Rattle.layout.specs.Places.{prior_inside}
use Rattle.readings.proofs.prior_mean.Goals as goal
use Rattle.readings.proofs.prior_mean.Goals.{After-parts_of}

place : (c : After-parts_of) → let a = c.args in 10 + 8 * c.parts_of.result + 12 * a.k ≡ prior_mean_at (last_year a.s.now) a.k
place c = omega arith

pub returns-in_default : goal.returns-in_default
returns-in_default c =
    let a = c.args in
    let s = a.s.now in
    absurd
    (omega (
      arith,
      place (goal.at.returns-in_default c).After-parts_of,
      prior_inside s c.requires.0 a.k c.requires.1,
      signed_outside (10 + 8 * c.parts_of.result + 12 * a.k) s c.signed_4.ensures c.in_default.is,
    ))

pub returns : goal.returns
returns c =
    let a = c.args in
    let s = a.s.now in
    to_z-of_z {w = w64} {z = c.in-Some.mean} (record { sfits = c.in-Some.known_told-1-own.given.0.1 })
    ∙ signed_read (10 + 8 * c.parts_of.result + 12 * a.k) s c.signed_4.ensures c.in-Some.is
    ∙ ap (λ at. signed at s) (place (goal.at.returns c).After-parts_of)
