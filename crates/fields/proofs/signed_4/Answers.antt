-- A value that was read has four bytes, so that it fits 32 bits.
use Rattle.std.proofs.Common.{◌≡◌, ◌<◌, ◌^◌, sym, ap, ◌∙◌, arith, Some, ℕ, suc, ◌-◌, Bool, true, false, cond, ltb, refl, pos, ◌-ℤ◌}
use Rattle.std.proofs.Math.Facts.{to_z_pos, to_z-neg, to_z-of_z}
use borrow.Author.Tests.{ltb-true, ltb-false}
use mir.Syntax.{w32, w64}
use mir.Val.{to_z, of_z}
use Rattle.integers.specs.Linear.{linear}
use Rattle.definitions.specs.Layout.{twos_complement}
use Rattle.fields.specs.Fields.{field_read, field_inside, field_outside, signed_value, signed_end}
use Rattle.fields.proofs.Bytes.{unsigned_below}
use Rattle.fields.proofs.signed_4.Goals as goal
use Rattle.fields.proofs.signed_4.Goals.{In_ok-word}

small : (c : In_ok-word) → c.in_ok-word.field-0 < 2 ^ 32
small c =
    let a = c.args in
    let e = c.unsigned_4.ensures in
    let was = c.in_ok-word.was in
    rw (field_read 4 a.at a.s.now e was) (unsigned_below a.s.now (λ k. (c.type_inv.s k).fits) a.at 4 (field_inside 4 a.at a.s.now e was))

pub returns-in_err-word : goal.returns-in_err-word
returns-in_err-word c =
    let a = c.args in
    c.from_residual.ensures ∙ sym (signed_end a.at a.s.now (field_outside 4 a.at a.s.now c.unsigned_4.ensures (c.in_err-word.was)))

pub overflow_cast-word : goal.overflow_cast-word
overflow_cast-word c = record { fits = small c }

-- 32 bits as a signed number
halves : (v : ℕ) → v < 2 ^ 32 → (b : Bool) → ltb v (2 ^ 31) ≡ b → to_z w32 v ≡ cond b (pos v) (pos v -ℤ pos (2 ^ 32))
halves v h true e = to_z_pos w32 (ltb-true v (2 ^ 31) e)
halves v h false e =
    let k = 2 ^ 32 - suc v in
    let low = ltb-false v (2 ^ 31) e in
    let back : v ≡ 2 ^ 32 - suc k = omega arith in
    ap (to_z w32) back ∙ to_z-neg w32 k (omega arith) ∙ simp linear (omega arith)

pub returns : goal.returns
unfolding twos_complement
returns c =
    let a = c.args in
    let in_word = (goal.at.returns c).In_ok-word in
    let v = c.in_ok-word.field-0 in
    let same : to_z w64 (of_z w64 c.from.result) ≡ c.cast_signed.result =
    to_z-of_z {w = w64} {z = c.from.result} (record { sfits = c.from.type_inv })
    ∙ c.from.ensures
    ∙ to_z-of_z {w = w32} {z = c.cast_signed.result} (record { sfits = c.cast_signed.type_inv }) in
    let read = c.cast_signed.ensures ∙ halves v (small in_word) (ltb v (2 ^ 31)) refl in
    ap Some (same ∙ read ∙ ap twos_complement (field_read 4 a.at a.s.now c.unsigned_4.ensures c.in_ok-word.was))
    ∙ sym (signed_value a.at a.s.now (field_inside 4 a.at a.s.now c.unsigned_4.ensures c.in_ok-word.was))
