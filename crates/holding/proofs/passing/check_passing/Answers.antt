use Rattle.std.proofs.Common.{sym, ◌∙◌, inl, inr}
use Rattle.chain.specs.Judge as J
use Rattle.chain.specs.Judge.{own_fits}
use Rattle.holding.specs.State.{Held, held_at}
use Rattle.holding.specs.Fitted.{Framed, asks_residues, held_inside, fits, frame, rows}
use Rattle.holding.proofs.passing.check_passing.Goals as goal
use Rattle.holding.proofs.passing.check_passing.Goals.{Else-not-frame_fits, Start}

-- the session that is lent
abbrev S : Start → Held
S s = let a = s.args in held_at a.last a.closeness a.total a.own.now a.matrix.now a.right_hand.now a.mean.now

pub returns-then-not-frame_fits : goal.returns-then-not-frame_fits
returns-then-not-frame_fits c = inl (c.at.ensures, λ h. c.frame_fits.ensures.when_no c.if-not-frame_fits.true (frame h))

-- the frame fits
framed : (c : Else-not-frame_fits) → Framed (S (goal.at.residues-requires c).Start)
framed c = c.frame_fits.ensures.when_yes c.if-not-frame_fits.false

pub residues-requires : goal.residues-requires
residues-requires c = asks_residues (framed c) (held_inside (framed c))

pub returns-in_default : goal.returns-in_default
returns-in_default c = inl (c.at-in_default.ensures, λ h. c.in_default.ensures (rows h))

pub passes-requires : goal.passes-requires
passes-requires c =
    let at = goal.at.passes-requires c in
    own_fits (S at.Start).figures (fits (framed at.Else-not-frame_fits) c.in-Some.ensures.fit).fitting

pub returns-then-not-passes : goal.returns-then-not-passes
returns-then-not-passes c =
    let at = goal.at.returns-then-not-passes c in
    let s = S at.Start in
    let passing = sym (J.passing s.figures s.mean _ c.in-Some.ensures.are c.passes.ensures) in
    inr (c.at-then-not-passes.ensures, fits (framed at.Else-not-frame_fits) c.in-Some.ensures.fit, passing ∙ c.if-not-passes.true)

pub returns : goal.returns
returns c =
    let at = goal.at.returns c in
    let s = S at.Start in
    let passing = sym (J.passing s.figures s.mean _ c.in-Some.ensures.are c.passes.ensures) in
    (fits (framed at.Else-not-frame_fits) c.in-Some.ensures.fit, passing ∙ c.if-not-passes.false)
