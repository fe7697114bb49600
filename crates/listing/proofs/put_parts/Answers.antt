-- The lines of a record's parts. The invariant: the page is as long as it was, and the lines of the parts passed are added.
use Rattle.std.proofs.Common.{◌≡◌, refl, ap, ◌∙◌, arith}
use borrow.Author.Rules.{rules}
use mir.Syntax.{w64}
use mir.Val.{SFits}
use mir.Facts.{to_z-of_z}
use Rattle.definitions.specs.Layout.{parts, part_at, signed}
use Rattle.definitions.specs.Matrix.{part_by_index}
use Rattle.definitions.specs.Text.{lines}
use Rattle.definitions.specs.Programs.{part_line}
use Rattle.laws.proofs.Lines.{lines_next}
use Rattle.fields.specs.Fields.{signed_read, signed_value}
use Rattle.text.specs.Added.{both, in_words, nothing}
use Rattle.listing.proofs.put_parts.Goals as goal

pub loop-k-init : goal.loop-k-init
unfolding lines
loop-k-init c = (refl, nothing _ _ c.requires.on)

pub unwrap-mean-requires : goal.unwrap-mean-requires
unwrap-mean-requires c =
    rw (c.signed_4.ensures ∙ signed_value (part_at c.loop-k.k) c.args.«record».now (omega (arith, c.requires.years))) refl

pub loop-k-preserved : goal.loop-k-preserved
loop-k-preserved c =
    let a = c.args in
    let l = c.loop-k in
    let line = c.put_part-end in
    let field = signed_read (part_at l.k) a.«record».now c.signed_4.ensures c.unwrap-mean.ensures in
    let fits : SFits w64 c.unwrap-mean.result = search rules in
    let mean = to_z-of_z {w = w64} {z = c.unwrap-mean.result} fits ∙ field in (
      line.auto.page ∙ l.invariant.0,
      in_words (lines_next (λ i. part_line (part_by_index a.last i) (signed (part_at i) a.«record».now)) l.k)
          (both l.invariant.1 l.invariant.0 (in_words (ap (part_line (part_by_index a.last l.k)) mean) line.ensures)),
    )

pub returns : goal.returns
returns c =
    let a = c.args in
    let l = c.loop-k in
    let all : l.k ≡ parts a.last = omega (arith, l.auto.k-end, c.loop-k-test.false) in
    in_words (ap (lines (λ i. part_line (part_by_index a.last i) (signed (part_at i) a.«record».now))) all) l.invariant.1
