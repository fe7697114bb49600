-- `bounds::part_fits` meets its contract: each test is one of the bounds.
use mathlib.Core.Path.{◌≡◌, sym, ap, subst, ◌∙◌}
use native.Mathlib.Omega.{arith}
use lib.IntN.{ℤ, pos, nat_abs}
use mathlib.Core.Bool.{true, false, not}
use lib.Dec.{T}
use lib.Signed.{◌≤ℤ◌, ◌<ℤ◌, clash_ℤ, lt_z, lt_z_yes, lt_z_no}
use mir.Syntax.{w64}
use mir.Val.{to_z, of_z}
use mir.Facts.{to_z-of_z}
use Rattle.chain.specs.Decides.{decided_yes, decided_no}
use Rattle.chain.specs.Fitting.{diagonal_limit}
use Rattle.holding.proofs.bounds.part_fits.Goals as goal
use Rattle.holding.proofs.bounds.part_fits.Goals.{Start}

less : {x y : ℤ} → lt_z x y ≡ true → x <ℤ y
less e = lt_z_yes (subst T (sym e) tt)

not_less : {x y : ℤ} → lt_z x y ≡ false → y ≤ℤ x
not_less e = lt_z_no (subst (λ b. T (not b)) (sym e) tt)

-- the numbers, as they are read
module _ (s : Start) where
  right_hand_read : to_z w64 (of_z w64 s.args.right_hand) ≡ s.args.right_hand
  right_hand_read = to_z-of_z s.ranges.right_hand

  mean_read : to_z w64 (of_z w64 s.args.mean) ≡ s.args.mean
  mean_read = to_z-of_z s.ranges.mean

  diagonal_read : to_z w64 (of_z w64 s.args.diagonal) ≡ s.args.diagonal
  diagonal_read = to_z-of_z s.ranges.diagonal

pub returns-then-own-gt8589934592 : goal.returns-then-own-gt8589934592
returns-then-own-gt8589934592 c = decided_no (λ fits. omega (arith, c.if-own-gt8589934592.true, fits.own_to))

pub returns-then-diagonal-lt1 : goal.returns-then-diagonal-lt1
returns-then-diagonal-lt1 c =
    let small = subst (λ d. d <ℤ pos 1) (diagonal_read (goal.at.returns-then-diagonal-lt1 c).Start) (less c.if-diagonal-lt1.true) in
    decided_no (λ fits. clash_ℤ small fits.diagonal_from)

pub returns-then-diagonal-gt8589934592 : goal.returns-then-diagonal-gt8589934592
returns-then-diagonal-gt8589934592 c =
    let large =
    subst (λ d. pos diagonal_limit <ℤ d) (diagonal_read (goal.at.returns-then-diagonal-gt8589934592 c).Start) (less c.if-diagonal-gt8589934592.true) in
    decided_no (λ fits. clash_ℤ large fits.diagonal_to)

pub returns-then-unsigned_abs-gt576460752303423488 : goal.returns-then-unsigned_abs-gt576460752303423488
returns-then-unsigned_abs-gt576460752303423488 c =
    let size = c.unsigned_abs.ensures.value ∙ ap nat_abs (right_hand_read (goal.at.returns-then-unsigned_abs-gt576460752303423488 c).Start) in
    decided_no (λ fits. omega (arith, c.if-unsigned_abs-gt576460752303423488.true, size, fits.right_hand_to))

pub returns-then-unsigned_abs-gt67108864 : goal.returns-then-unsigned_abs-gt67108864
returns-then-unsigned_abs-gt67108864 c =
    let size = c.unsigned_abs-2.ensures.value ∙ ap nat_abs (mean_read (goal.at.returns-then-unsigned_abs-gt67108864 c).Start) in
    decided_no (λ fits. omega (arith, c.if-unsigned_abs-gt67108864.true, size, fits.mean_to))

pub returns : goal.returns
returns c =
    let start = (goal.at.returns c).Start in
    decided_yes (record {
      own_to = omega (arith, c.if-own-gt8589934592.false);
      diagonal_from = subst (λ d. pos 1 ≤ℤ d) (diagonal_read start) (not_less c.if-diagonal-lt1.false);
      diagonal_to = subst (λ d. d ≤ℤ pos diagonal_limit) (diagonal_read start) (not_less c.if-diagonal-gt8589934592.false);
      right_hand_to = omega (arith, c.if-unsigned_abs-gt576460752303423488.false, c.unsigned_abs.ensures.value ∙ ap nat_abs (right_hand_read start));
      mean_to = omega (arith, c.if-unsigned_abs-gt67108864.false, c.unsigned_abs-2.ensures.value ∙ ap nat_abs (mean_read start));
    })
