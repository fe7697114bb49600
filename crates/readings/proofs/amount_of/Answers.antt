-- `readings::amount_of` meets its contract: the place is the definition's, and ends inside the file. Assumes nothing.
use native.Mathlib.Omega.{arith}
use mathlib.Core.Path.{◌≡◌, ap, ◌∙◌}
use Prim.Native.Nat.{◌+◌, ◌*◌}
use Rattle.definitions.specs.Layout.{unsigned, last_year, amount_at}
use Rattle.layout.specs.Places.{amount_inside}
use Rattle.readings.proofs.amount_of.Goals as goal

pub overflow_mul-c : goal.overflow_mul-c
overflow_mul-c c = omega (arith, amount_inside c.args.s.now c.requires.0 c.args.c c.requires.1)

pub overflow_add-amounts_at : goal.overflow_add-amounts_at
overflow_add-amounts_at c = omega (arith, amount_inside c.args.s.now c.requires.0 c.args.c c.requires.1)

pub eight-requires : goal.eight-requires
eight-requires c = omega (arith, amount_inside c.args.s.now c.requires.0 c.args.c c.requires.1)

pub returns : goal.returns
returns c =
    let a = c.args in
    let s = a.s.now in
    let place : c.amounts_at.result + 8 * a.c ≡ amount_at (last_year s) a.c = omega arith in
    c.eight.ensures ∙ ap (λ at. unsigned 8 at s) place
