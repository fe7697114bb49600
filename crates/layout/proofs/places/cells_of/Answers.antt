-- `layout::places::cells_of` meets its contract: a product of two numbers of nine bits does not overflow. Assumes nothing.
use Prim.Native.Nat.{◌+◌, ◌≤◌}
use native.Mathlib.Nat.{mul-le-mul}
use native.Mathlib.Omega.{arith}
use Rattle.layout.proofs.places.cells_of.Goals as goal

pub overflow_mul-result : goal.overflow_mul-result
overflow_mul-result c =
    let a : c.args.last + 1 ≤ 256 = omega arith in
    let b : c.args.last + 2 ≤ 257 = omega arith in
    omega (arith, mul-le-mul a b)
