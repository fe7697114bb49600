use Rattle.std.proofs.Common.{◌≡◌, ◌-◌, ◌<◌, ◌++◌, refl, ap, ap₂, ◌∙◌, arith, pos, replicate, set, Err, leb-true, nat_abs}
use Rattle.integers.specs.Size.{kept}
use Rattle.definitions.specs.Refusals.{part_limit}
use mir.Syntax.{w64}
use mir.Val.{to_z, of_z}
use Rattle.definitions.specs.Words.{tab_from}
use Rattle.definitions.specs.Layout.{part_at, parts}
use Rattle.layout.specs.CheckLaws.{left_start, left_none, left_next, left_bad}
use Rattle.records.specs.Parse.{part_refused, padded}
use Rattle.records.proofs.RecordSteps.{read_next}
use Rattle.records.proofs.parse_parts.Invariants.{read}
use Rattle.records.proofs.parse_parts.Goals as goal
use Rattle.records.proofs.parse_parts.Goals.{In-loop-k}

pub loop-k-init : goal.loop-k-init
unfolding tab_from
loop-k-init c = (refl, left_start _ 11 part_at _)

below : (c : In-loop-k) → c.loop-k.k < parts c.args.last
below c = omega (arith, c.loop-k-test.true, c.parts_of-k-end.ensures)

pub returns-in_err-part : goal.returns-in_err-part
returns-in_err-part c =
    let found = c.in_err-part.ensures in
    let handed : c.from_residual.result ≡ Err c.in_err-part.field-0.0 = grind arith in
    rw handed
    (part_refused c.in_err-part.field-0.0
    (rw found.0 (left_bad c.loop-k.invariant.1 (below (goal.at.returns-in_err-part c).In-loop-k) found.1)))

pub loop-k-preserved : goal.loop-k-preserved
loop-k-preserved c =
    let l = c.loop-k in
    let r = c.args.r.now in
    let found = c.in_ok-part.ensures in
    let more = below (goal.at.loop-k-preserved c).In-loop-k in
    let held : to_z w64 (of_z w64 c.in_ok-part.part) ≡ read r l.k = kept w64 found.0 (omega (arith, leb-true (nat_abs (read r l.k)) part_limit found.1)) in (
      ap₂ (λ m z. set m l.k z) l.invariant.0 held ∙ read_next (read r) 31 l.k (omega (arith, more, c.requires.0)),
      left_next l.invariant.1 more found.1,
    )

pub returns : goal.returns
returns c =
    let a = c.args in
    let all : c.loop-k.k ≡ parts a.last = omega (arith, c.parts_of-k-end.ensures, c.loop-k.auto.k-end, c.loop-k-test.false) in
    let is : c.loop-k.mean ≡ padded a.last a.r.now
    = c.loop-k.invariant.0 ∙ ap (λ k. tab_from 0 k (read a.r.now) ++ replicate (31 - k) (pos 0)) all in
    record {
      checked = left_none c.loop-k.invariant.1 (omega (arith, all));
      is = λ m k. let same : m ≡ c.loop-k.mean = cc in same ∙ is;
    }
