-- After 21 and the checks of the record, the judgement is that of the mean that the record holds.
use Rattle.std.proofs.Common.{◌≡◌, sym, ap, ◌∙◌, arith, Ok, List, ℤ, ℕ, refl}
use Rattle.definitions.specs.Words.{part}
use Rattle.definitions.specs.Refusals.{clear, record_check}
use Rattle.definitions.specs.Layout as D
use Rattle.definitions.specs.Matrix.{Judgement, judgement}
use Rattle.records.specs.Parse.{padded, ParsedRecord}
use Rattle.chain.specs.Arrays.{figures_of}
use Rattle.chain.specs.Judge.{own_fits, judged}
use Rattle.holding.specs.State.{Held, held_at}
use Rattle.holding.specs.Fitted.{Framed, asks_residues, fits, frame, rows}
use Rattle.judging.proofs.JudgeLaws.{judges_closed, judges_refused, judges_verdict}
use Rattle.judging.proofs.MeanOfRecord.{mean_inside, mean_is}
use Rattle.judging.proofs.judge_lent.Goals as goal
use Rattle.judging.proofs.judge_lent.Goals.{Else-not-frame_fits, Start}

-- the session that is lent
abbrev S : Start → Held
S s = let a = s.args in held_at a.last a.closeness a.total a.own.now a.matrix.now a.right_hand.now a.mean.now

pub returns-then-not-frame_fits : goal.returns-then-not-frame_fits
returns-then-not-frame_fits c = rw c.at.ensures (judges_closed _ _ (λ h. c.frame_fits.ensures.when_no c.if-not-frame_fits.true (frame h)))

-- the frame fits
framed : (c : Else-not-frame_fits) → Framed (S (goal.at.overflow_cast-year c).Start)
framed c = c.frame_fits.ensures.when_yes c.if-not-frame_fits.false

pub overflow_cast-year : goal.overflow_cast-year
overflow_cast-year c = record { fits = omega (arith, (framed c).years) }

pub returns-in_default : goal.returns-in_default
returns-in_default c = rw c.at-in_default.ensures (judges_closed _ _ (λ h. c.in_default.ensures (rows h)))

pub returns-in-Some : goal.returns-in-Some
returns-in-Some c =
    let at = goal.at.returns-in-Some c in
    judges_refused (S at.Start) c.args.lent.now (fits (framed at.Else-not-frame_fits) c.in-Some.ensures.fit) c.in-Err.refusal (sym c.in-Err.ensures.checked)

-- the record is not refused, so its mean is read
module _ (last : ℕ) (r : D.Bytes) {m : List ℤ} (parsed : ParsedRecord last r (Ok m)) where
  clear_record : record_check last r ≡ clear
  clear_record = sym parsed.checked

  parsed_mean : m ≡ padded last r
  parsed_mean = parsed.is m refl

pub residues-requires-in-Ok : goal.residues-requires-in-Ok
residues-requires-in-Ok c =
    let a = c.args in
    let r = c.in-Ok.ensures in
    asks_residues (framed (goal.at.residues-requires-in-Ok c).Else-not-frame_fits)
    (mean_inside a.last a.lent.now (clear_record a.last a.lent.now r) (parsed_mean a.last a.lent.now r))

pub returns-in_default-residues : goal.returns-in_default-residues
returns-in_default-residues c = rw c.at-in_default-residues.ensures (judges_closed _ _ (λ h. c.in_default-residues.ensures (rows h)))

pub test-requires : goal.test-requires
test-requires c =
    let at = goal.at.test-requires c in
    own_fits (S at.Start).figures (fits (framed at.Else-not-frame_fits) c.in-Some-residues.ensures.fit).fitting

pub returns-in-Some-residues : goal.returns-in-Some-residues
returns-in-Some-residues c =
    let at = goal.at.returns-in-Some-residues c in
    let a = c.args in
    let s = S at.Start in
    let r = c.in-Ok.ensures in
    let told = clear_record a.last a.lent.now r in
    let verdict_of : List ℤ → Judgement = λ m. judgement (figures_of s.figures) (part m) in
    judges_verdict s a.lent.now (fits (framed at.Else-not-frame_fits) c.in-Some-residues.ensures.fit) c.test.result told
    (judged s.figures _ _ c.in-Some-residues.ensures.are c.test.ensures
    ∙ ap verdict_of (mean_is a.last a.lent.now told (parsed_mean a.last a.lent.now r)))
