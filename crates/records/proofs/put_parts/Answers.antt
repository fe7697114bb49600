-- `records::put_parts` meets its contract. The loop's invariant: the bytes of the parts passed stand behind the first five, and
-- the bytes behind them are as they were. The measure is how many are left. Assumes nothing.
use native.Mathlib.Omega.{arith}
use Prim.Native.Nat.{◌^◌, ◌≤◌}
use mathlib.Core.Path.{◌≡◌, refl, ap, ◌∙◌}
use lib.IntN.{nat_abs}
use mir.Syntax.{w64}
use mir.Val.{to_z, of_z}
use Rattle.integers.specs.Size.{kept}
use Rattle.definitions.specs.Words.{part}
use Rattle.definitions.specs.Layout.{parts, four_bytes}
use Rattle.records.specs.Records.{with_parts}
use Rattle.records.proofs.RecordSteps.{put_none, put_next}
use Rattle.records.proofs.put_parts.Goals as goal
use Rattle.records.proofs.put_parts.Goals.{In-loop-k}

pub loop-k-init : goal.loop-k-init
loop-k-init c = let a = c.args in (put_none a.buf.now a.mean.now, refl)

small : (c : In-loop-k) → nat_abs (part c.args.mean.now c.loop-k.k) ≤ 2 ^ 26
small c = c.requires.2 c.loop-k.k (omega arith)

held : (c : In-loop-k)
    → let z = part c.args.mean.now c.loop-k.k in
    to_z w64 (of_z w64 z) ≡ z
held c = kept w64 refl (omega (arith, small c))

pub four_bytes-requires : goal.four_bytes-requires
four_bytes-requires c =
    let in_loop_k = (goal.at.four_bytes-requires c).In-loop-k in
    omega (arith, ap nat_abs (held in_loop_k), small in_loop_k)

pub loop-k-preserved : goal.loop-k-preserved
loop-k-preserved c =
    let l = c.loop-k in
    let a = c.args in
    let told = c.four_bytes.ensures in (
      put_next a.buf.now a.mean.now l.k l.invariant.0 c.put_four.ensures
          (omega arith) (omega (arith, told, ap four_bytes (held (goal.at.loop-k-preserved c).In-loop-k))) (omega arith),
      omega arith,
    )

pub shape_of-buf : goal.shape_of-buf
shape_of-buf c = c.loop-k.invariant.1

pub returns : goal.returns
returns c =
    let a = c.args in
    let all : c.loop-k.k ≡ parts a.last = omega arith in
    c.loop-k.invariant.0 ∙ ap (with_parts a.buf.now a.mean.now) all
