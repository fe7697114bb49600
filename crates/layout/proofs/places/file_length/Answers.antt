-- `layout::places::file_length` meets its contract: no product overflows, since J is a byte. Assumes nothing.
use Prim.Native.Nat.{◌+◌, ◌*◌, ◌≤◌}
use native.Mathlib.Nat.{mul-le-mul}
use native.Mathlib.Omega.{arith}
use Rattle.layout.proofs.places.file_length.Goals as goal
use Rattle.layout.proofs.places.file_length.Goals.{After-parts_of}

amounts : (c : After-parts_of) → 8 * (c.args.last + 1) * (c.args.last + 2) ≤ 2048 * 257
amounts c =
    let a : 8 * (c.args.last + 1) ≤ 2048 = omega arith in
    let b : c.args.last + 2 ≤ 257 = omega arith in
    mul-le-mul a b

pub overflow_mul-result-3 : goal.overflow_mul-result-3
overflow_mul-result-3 c = omega (arith, amounts c)

pub overflow_add-result-4 : goal.overflow_add-result-4
overflow_add-result-4 c = omega (arith, amounts c)
