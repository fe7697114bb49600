use Rattle.std.proofs.Common.{◌≡◌, ◌+◌, ◌*◌, ◌<◌, ◌^◌, length, get_or, sym, ap, ◌∙◌, arith}
use Rattle.std.proofs.Math.Seq.{take-length}
use Rattle.definitions.specs.Layout.{unsigned, big_endian}
use Rattle.fields.proofs.Bytes.{unsigned_none, unsigned_front, unsigned_fits}
use Rattle.fields.proofs.number.Goals as goal
use Rattle.fields.proofs.number.Goals.{In-loop-byte}

pub loop-byte-init : goal.loop-byte-init
loop-byte-init c = sym (unsigned_none 0 c.args.bytes.now)

-- the value with the next byte
module _ (c : In-loop-byte) where
  open c.args.bytes use {now as bytes}
  open c.loop-byte use {value, byte-index as n}

  next : value * 256 + get_or bytes n 0 ≡ unsigned (n + 1) 0 bytes
  next = ap (λ v. v * 256 + get_or bytes n 0) c.loop-byte.invariant ∙ sym (unsigned_front n bytes c.loop-byte-test.true)

  next_fits : value * 256 + get_or bytes n 0 < 2 ^ 64
  next_fits =
      let more = c.loop-byte-test.true in
      rw next (unsigned_fits bytes (λ k. (c.type_inv.bytes k).fits) 0 (n + 1) (omega (arith, more)) (omega (arith, more)))

pub overflow_mul-value : goal.overflow_mul-value
overflow_mul-value c = omega (arith, next_fits c)

pub overflow_add-value : goal.overflow_add-value
overflow_add-value c = omega (arith, next_fits (goal.at.overflow_add-value c).In-loop-byte, c.from.ensures)

pub loop-byte-preserved : goal.loop-byte-preserved
loop-byte-preserved c = ap (λ b. c.loop-byte.value * 256 + b) c.from.ensures ∙ next (goal.at.loop-byte-preserved c).In-loop-byte

pub returns : goal.returns
unfolding unsigned
returns c =
    let bytes = c.args.bytes.now in
    let all : c.loop-byte.byte-index ≡ length bytes = omega (arith, c.loop-byte.auto.byte-index-end, c.loop-byte-test.false) in
    c.loop-byte.invariant ∙ ap (λ n. unsigned n 0 bytes) all ∙ ap (big_endian 0) (take-length bytes)
