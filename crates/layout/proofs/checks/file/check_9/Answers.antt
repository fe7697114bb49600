-- `layout::checks::file::check_9` meets its contract: the run's fields are the amounts of both blocks, which end inside the file.
-- Assumes nothing.
use mathlib.Core.Path.{◌≡◌, ap, ◌∙◌}
use Prim.Native.Nat.{ℕ, ◌+◌, ◌*◌}
use native.Mathlib.Omega.{arith}
use Rattle.definitions.specs.Layout.{last_year, cells, amount_at}
use Rattle.definitions.specs.Refusals.{check9}
use Rattle.laws.proofs.Cells.{blocks_end}
use Rattle.layout.specs.Places.{amount_inside}
use Rattle.layout.specs.CheckLaws.{unsigned_run_lem}
use Rattle.layout.proofs.checks.file.check_9.Goals as goal
use Rattle.layout.proofs.checks.file.check_9.Goals.{After-cells_of}

all : (c : After-cells_of) → c.cells_of.result ≡ cells (last_year c.args.s.now)
all c = c.cells_of.ensures ∙ ap cells c.last_year-last.ensures

pub overflow_mul-run : goal.overflow_mul-run
overflow_mul-run c = omega (arith, all c, blocks_end (last_year c.args.s.now), c.requires.whole)

pub check_unsigned-requires : goal.check_unsigned-requires
check_unsigned-requires c = λ k h.
    let s = c.args.s.now in
    omega (arith, all c, amount_inside s c.requires k (omega (arith, all c)))

pub returns : goal.returns
unfolding check9
returns c =
    let s = c.args.s.now in
    let places : (k : ℕ) → c.amounts_at.result + 8 * k ≡ amount_at (last_year s) k = λ k. omega arith in
    c.check_unsigned.ensures ∙ unsigned_run_lem s 9 _ places (ap (λ n. 2 * n) (all (goal.at.returns c).After-cells_of)) _
