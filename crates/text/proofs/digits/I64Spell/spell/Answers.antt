-- A sign where the number is below 0, and the digits of its size.
use Rattle.std.proofs.Common.{ap, subst, ◌∙◌, arith, to_z-of_z, nat_abs}
use Rattle.integers.specs.Bits.{negative, nonnegative}
use Rattle.definitions.specs.Text.{decimal, signed_decimal}
use Rattle.text.specs.Digits.{Spelt, signed_spelt, room_for_sign}
use Rattle.text.proofs.digits.I64Spell.spell.Goals as goal

pub overflow_sub-from : goal.overflow_sub-from
overflow_sub-from c = room_for_sign _ (omega (arith, c.unsigned_abs.ensures.bound)) c.spell-from.ensures

pub returns-then-self-lt0 : goal.returns-then-self-lt0
unfolding signed_decimal
returns-then-self-lt0 c =
    let below = negative c.ranges.self c.if-self-lt0.true in
    let size = c.unsigned_abs.ensures.value ∙ ap nat_abs (to_z-of_z c.ranges.self ∙ below.is) in
    let digits = subst (λ n. Spelt (decimal n) c.spell-from.result) size c.spell-from.ensures in
    let room = room_for_sign _ (omega (arith, c.unsigned_abs.ensures.bound)) c.spell-from.ensures in
    rw below.is (signed_spelt c.spell-from.result.bytes c.spell-from.result.from digits room)

pub returns-else-self-lt0 : goal.returns-else-self-lt0
unfolding signed_decimal
returns-else-self-lt0 c =
    let above = nonnegative c.ranges.self c.if-self-lt0.false in
    let size = c.unsigned_abs.ensures.value ∙ ap nat_abs (to_z-of_z c.ranges.self ∙ above.is) in
    rw above.is (subst (λ n. Spelt (decimal n) c.spell-from.result) size c.spell-from.ensures)
