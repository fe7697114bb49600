-- The tests that led to each answer say whether the field ends inside the string.
use Rattle.std.proofs.Common.{◌≡◌, ◌+◌, ◌-◌, take, drop, sym, ap, ◌∙◌, Some, arith}
use Rattle.definitions.specs.Layout.{unsigned, big_endian}
use Rattle.fields.specs.Fields.{field_value, field_end}
use Rattle.fields.proofs.unsigned.Goals as goal
use Rattle.fields.proofs.unsigned.Goals.{then-s-at-via-then-s-at, then-s-at-via-else-s-at+then-s-at-2}

pub returns-then-s-at : goal.returns-then-s-at
returns-then-s-at c =
    let a = c.args in
    sym (field_end a.width a.at a.s.now (elim c.then-s-at.branch [
      | then-s-at-via-then-s-at w ↦ omega (arith, w.if-s-at.true)
      | then-s-at-via-else-s-at+then-s-at-2 w ↦ omega (arith, w.if-s-at-2.true)
    ]))

pub returns : goal.returns
unfolding unsigned
returns c =
    let a = c.args in
    let wide : a.at + a.width - a.at ≡ a.width = omega arith in
    ap Some (c.number.ensures ∙ ap (λ n. big_endian 0 (take n (drop a.at a.s.now))) wide)
    ∙ sym (field_value a.width a.at a.s.now (omega (arith, c.if-s-at.false, c.if-s-at-2.false)))
