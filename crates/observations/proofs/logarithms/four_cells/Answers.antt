-- `observations::logarithms::four_cells` meets its contract: four cells inside the array, filled one after another.
use Prim.Native.Nat.{ℕ, ◌+◌, ◌^◌, ◌≤◌, ◌<◌}
use mathlib.Core.Path.{◌≡◌, ap, ◌∙◌}
use native.Mathlib.Omega.{arith}
use lib.IntN.{ℤ, pos}
use lib.Signed.{mag}
use Rattle.definitions.specs.Layout.{last_year}
use Rattle.definitions.specs.Logarithm.{logarithm}
use Rattle.laws.proofs.Cells.{cells_few}
use Rattle.integers.specs.Bits.{stored, same}
use Rattle.observations.proofs.ReadLaws.{cells_four}
use Rattle.observations.proofs.logarithms.four_cells.Goals as goal
use Rattle.observations.proofs.logarithms.four_cells.Goals.{After-struct_told-4-1}

-- the four stand in the array
below : (c : After-struct_told-4-1) → c.args.c + 4 ≤ 272
below c =
    omega (arith, c.requires.more, cells_few (last_year c.args.file.now) c.requires.whole.high)

-- a logarithm as it is stored
logged : {z : ℤ} {amount cell : ℕ} → mag z < 2 ^ 63 → z ≡ pos (logarithm amount) → amount ≡ cell → stored z ≡ pos (logarithm cell)
logged {z} told is of = same z told ∙ is ∙ ap (λ a. pos (logarithm a)) of

pub returns : goal.returns
returns c =
    let four = c.four_logarithms_of-four.ensures in
    let told = c.struct_told-4-1.given in
    cells_four c.requires.so_far (below c)
    (logged told.0.1.1.0.1 four.first c.amount_of.ensures)
    (logged told.1.0.1.1.0.1 four.second c.amount_of-2.ensures)
    (logged told.1.1.0.1.1.0.1 four.third c.amount_of-3.ensures)
    (logged told.1.1.1.0.1.1.0.1 four.fourth c.amount_of-4.ensures)
