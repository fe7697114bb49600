-- `write_residues` meets its contract. The loop's invariant: the bytes of the residues passed stand at the front, and the bytes behind them
-- are as they were.
use native.Mathlib.Omega.{arith}
use Prim.Native.Nat.{◌*◌, ◌<◌}
use mathlib.Core.Path.{◌≡◌, refl, ap, ◌∙◌}
use mathlib.Core.List.{◌++◌}
use native.Mathlib.Nat.{zero-add}
use lib.ListN.{drop}
use Rattle.integers.specs.Bits.{same}
use Rattle.definitions.specs.Words.{part}
use Rattle.definitions.specs.Layout.{parts, complement, number_bytes}
use Rattle.laws.proofs.NumberBytes.{with_numbers, put_none, put_next}
use Rattle.weighing.proofs.bytes.write_residues.Goals as goal
use Rattle.weighing.proofs.bytes.write_residues.Goals.{In-loop-k}

pub loop-k-init : goal.loop-k-init
loop-k-init c = let a = c.args in (put_none 8 0 a.buf.now a.residues.now, refl)

-- residue k, and room for it
module _ (c : In-loop-k) where
  below : c.loop-k.k < parts c.args.last
  below = omega (arith, c.loop-k-test.true, c.parts_of-k-end.ensures)

pub offset_bounds-residues-k : goal.offset_bounds-residues-k
offset_bounds-residues-k c = omega (arith, below c, c.requires.few)

pub bounds-residues-k : goal.bounds-residues-k
bounds-residues-k c = omega (arith, below c, c.requires.few)

pub overflow_mul-k : goal.overflow_mul-k
overflow_mul-k c = omega (arith, below (goal.at.overflow_mul-k c).In-loop-k, c.requires.few)

pub put_eight-requires : goal.put_eight-requires
put_eight-requires c = omega (arith, below (goal.at.put_eight-requires c).In-loop-k, c.requires.room, c.loop-k.invariant.1)

pub loop-k-preserved : goal.loop-k-preserved
loop-k-preserved c =
    let a = c.args in
    let k = c.loop-k.k in
    let held = same (part a.residues.now k) c.z-1.given in (
      put_next 8 0 a.buf.now a.residues.now k c.loop-k.invariant.0 c.put_eight.ensures
          (omega arith) (c.eight_bytes.ensures ∙ ap (complement 8) held) (omega (arith, below (goal.at.loop-k-preserved c).In-loop-k, c.requires.room)),
      omega (arith, c.loop-k.invariant.1),
    )

pub shape_of-buf : goal.shape_of-buf
shape_of-buf c = c.loop-k.invariant.1

pub returns : goal.returns
returns c =
    let a = c.args in
    let all : c.loop-k.k ≡ parts a.last = omega (arith, c.loop-k.auto.k-end, c.loop-k-test.false, c.parts_of-k-end.ensures) in
    c.loop-k.invariant.0
    ∙ ap (with_numbers 8 0 a.buf.now a.residues.now) all
    ∙ ap (λ n. number_bytes 8 0 (parts a.last) a.residues.now ++ drop n a.buf.now) (zero-add (8 * parts a.last))
