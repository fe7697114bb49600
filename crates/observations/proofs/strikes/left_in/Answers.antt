-- `observations::strikes::left_in` meets its contract. The loop's invariant: the parts passed are counted.
use Prim.Native.Nat.{◌<◌}
use mathlib.Core.Path.{ap, ◌∙◌}
use native.Mathlib.Omega.{arith}
use Rattle.laws.proofs.Filled.{filled_none, filled_next, filled_to}
use Rattle.laws.proofs.Marks.{steps_few}
use Rattle.observations.specs.Arrays.{unmarked}
use Rattle.observations.proofs.strikes.left_in.Goals as goal
use Rattle.observations.proofs.strikes.left_in.Goals.{In-loop-k}

pub loop-k-init : goal.loop-k-init
loop-k-init c = filled_none 31 0 _

room : (c : In-loop-k) → c.loop-k.k < 31
room c = omega (arith, c.requires.few)

pub steps_of-requires : goal.steps_of-requires
steps_of-requires c = record { few = c.requires.few; below = omega arith }

pub left_of-requires : goal.left_of-requires
left_of-requires c =
    record {
      part_there = room (goal.at.left_of-requires c).In-loop-k;
      few = omega (arith, c.steps_of.ensures, steps_few c.args.last c.loop-k.k c.requires.few);
    }

pub loop-k-preserved : goal.loop-k-preserved
loop-k-preserved c =
    let a = c.args in
    let k = c.loop-k.k in
    filled_next c.loop-k.invariant (room (goal.at.loop-k-preserved c).In-loop-k)
    (c.left_of.ensures ∙ ap (unmarked a.struck.now k) c.steps_of.ensures)

pub returns : goal.returns
returns c = record { filled = filled_to (omega arith) c.loop-k.invariant }
