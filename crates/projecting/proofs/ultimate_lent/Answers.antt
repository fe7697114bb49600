-- `ultimate_lent` meets its contract: after 21, 24 and 25 the figure of the year is answered.
use Prim.Native.Nat.{ℕ}
use mathlib.Core.Path.{◌≡◌}
use Rattle.std.proofs.Common.{Err}
use mathlib.Core.Bool.{true}
use mathlib.Core.List.{List}
use native.Mathlib.Omega.{arith}
use Rattle.observations.specs.declared.Observations.{Observations}
use Rattle.observations.specs.Arrays.{observations_at}
use Rattle.chain.specs.Arrays.{figures_of}
use Rattle.holding.specs.State.{Held, Fits, held_at}
use Rattle.holding.specs.Fitted.{frame}
use Rattle.holding.specs.Passing.{held_passes}
use Rattle.projecting.proofs.ProjectLaws.{projects_refused, projects_before, projects_behind, projects_central}
use Rattle.projecting.proofs.ultimate_lent.Goals as goal
use Rattle.projecting.proofs.ultimate_lent.Goals.{In_ok-check_passing, Start}

-- what is observed, with whatever else a session keeps
abbrev o : Start → List ℕ → List ℕ → Observations
o c weights struck = observations_at c.args.ticks.now weights c.args.variances.now struck

pub returns-in_err-check_passing : goal.returns-in_err-check_passing
returns-in_err-check_passing c weights struck =
    let start = (goal.at.returns-in_err-check_passing c).Start in
    let refusal = c.in_err-check_passing.field-0.0 in
    let handed : c.from_residual.result ≡ Err refusal = grind arith in
    rw handed (projects_refused (o start weights struck) _ _ refusal c.in_err-check_passing.ensures)

-- a file is open, and the mean that is held passes
module _ (c : In_ok-check_passing) where
  abbrev s : Held
  s = let a = c.args in held_at a.last a.closeness a.total a.own.now a.matrix.now a.right_hand.now a.mean.now

  open_file : Fits s
  open_file = c.in_ok-check_passing.ensures.0

  passing : held_passes s ≡ true
  passing = c.in_ok-check_passing.ensures.1

pub returns-then-year-lt1 : goal.returns-then-year-lt1
returns-then-year-lt1 c weights struck =
    let in_ok = (goal.at.returns-then-year-lt1 c).In_ok-check_passing in
    rw c.at.ensures (projects_before (o (goal.at.returns-then-year-lt1 c).Start weights struck) _ _ (open_file in_ok) (passing in_ok) c.if-year-lt1.true)

pub returns-then-last-year : goal.returns-then-last-year
returns-then-last-year c weights struck =
    let in_ok = (goal.at.returns-then-last-year c).In_ok-check_passing in
    rw c.at-then-last-year.ensures
    (projects_behind (o (goal.at.returns-then-last-year c).Start weights struck) _ _ (open_file in_ok) (passing in_ok) c.if-last-year.true)

pub central_ultimate-requires : goal.central_ultimate-requires
central_ultimate-requires c =
    let in_ok = (goal.at.central_ultimate-requires c).In_ok-check_passing in
    record {
      few = (frame (open_file in_ok)).years;
      from = omega (arith, c.if-year-lt1.false);
      to = omega (arith, c.if-last-year.false);
      small = (open_file in_ok).inside.small;
    }

pub returns : goal.returns
unfolding figures_of
returns c weights struck =
    let in_ok = (goal.at.returns c).In_ok-check_passing in
    projects_central (o (goal.at.returns c).Start weights struck) _ _ (open_file in_ok) (passing in_ok)
    (omega (arith, c.if-year-lt1.false)) (omega (arith, c.if-last-year.false)) (c.central_ultimate.ensures.is weights struck)
