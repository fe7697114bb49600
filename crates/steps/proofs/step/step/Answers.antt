-- One step. Shown: each number that the code computes is the definitions', since none wraps; the part is set to the definitions' part, and
-- the residues that follow speak of the same right-hand side as before. Assumes nothing.
use Prim.Native.Nat.{ℕ, ◌+◌, ◌*◌, ◌/◌, ◌^◌, ◌≤◌, ◌<◌}
use mathlib.Core.Path.{◌≡◌, sym, ap, ap₂, ◌∙◌, subst}
use mathlib.Core.List.{List}
use native.Mathlib.Nat.{le_refl}
use native.Mathlib.Omega.{arith}
use borrow.Author.Rules.{rules}
use lib.IntN.{ℤ, pos, nat_abs, ◌+ℤ◌, ◌-ℤ◌}
use lib.ListN.{length}
use lib.Signed.{◌<ℤ◌, quot_z}
use mir.Syntax.{w64}
use Rattle.integers.specs.Floor.{floor_div}
use Rattle.integers.specs.Linear.{linear}
use Rattle.integers.specs.Order.{nonneg_pos}
use Rattle.integers.specs.Size.{fits, kept}
use Rattle.definitions.specs.Words.{part}
use Rattle.definitions.specs.Layout.{parts}
use Rattle.definitions.specs.Sweep.{bring_back}
use Rattle.chain.specs.Arrays.{cell, cell_at}
use Rattle.integers.specs.Bits.{stored, read}
use Rattle.steps.specs.declared.Working.{Working}
use Rattle.steps.specs.Held.{moved, stepped, dividend}
use Rattle.steps.specs.Step.{Steps}
use Rattle.steps.specs.StepSizes.{index_below, parts_below, diagonal_small, diagonal_positive, residue_small, half_small, dividend_small, quotient_small}
use Rattle.steps.specs.StepSizes.{moved_small, fresh_small, change_small, follows, done}
use Rattle.steps.proofs.step.step.Goals as goal
use Rattle.steps.proofs.step.step.Goals.{After-brought_back-fresh}

module _ {last : ℕ} {A : List ℤ} {w : Working} {k : ℕ} (h : Steps last A w k) where
  diagonal : stored (part A (31 * k + k)) ≡ cell A k k
  diagonal = ap stored (sym (cell_at A k k (le_refl k))) ∙ read (cell A k k) (omega (arith, diagonal_small h))

  old : stored (part w.mean k) ≡ part w.mean k
  old = read (part w.mean k) (omega (arith, h.inside.small k h.below))

  positive : pos (nat_abs (cell A k k)) ≡ cell A k k
  positive = let one = diagonal_positive h in nonneg_pos (simp linear (omega (arith, simp linear at one)))

  -- the diagonal entry, half of it and the dividend, as the code has them
  abbrev diagonal_read : ℤ
  diagonal_read = stored (part A (31 * k + k))

  abbrev half_read : ℤ
  half_read = quot_z diagonal_read (pos 2)

  abbrev dividend_read : ℤ
  dividend_read = stored half_read -ℤ stored (part w.residues k)

  half : half_read ≡ pos (nat_abs (cell A k k) / 2)
  half = ap (λ a. quot_z a (pos 2)) (diagonal ∙ sym positive)

  half_fits : nat_abs (cell A k k) / 2 < 2 ^ 63
  half_fits = omega (arith, half_small h)

  dividend_is : dividend_read ≡ dividend A w k
  dividend_is = ap₂ ◌-ℤ◌ (kept w64 half half_fits) (read (part w.residues k) (omega (arith, residue_small h)))

  divisor_positive : pos 0 <ℤ diagonal_read
  divisor_positive = let one = diagonal_positive h in subst (λ d. pos 0 <ℤ d) (sym diagonal) (simp linear (omega (arith, simp linear at one)))

  -- q is what `floor` gives, and z what `brought_back` gives
  module _ (q : ℤ) (q-is : q ≡ floor_div (stored dividend_read) (nat_abs diagonal_read)) where
    quotient : q ≡ moved A w k
    quotient = q-is ∙ ap₂ (λ x d. floor_div x (nat_abs d)) (kept w64 dividend_is (omega (arith, dividend_small h))) diagonal

    sum : stored (part w.mean k) +ℤ stored q ≡ part w.mean k +ℤ moved A w k
    sum = ap₂ ◌+ℤ◌ old (kept w64 quotient (omega (arith, quotient_small h)))

    module _ (z : ℤ) (z-is : z ≡ bring_back (stored (stored (part w.mean k) +ℤ stored q))) where
      fresh : z ≡ stepped A w k
      fresh = z-is ∙ ap bring_back (kept w64 sum (moved_small h))

      fresh_kept : stored z ≡ stepped A w k
      fresh_kept = kept w64 fresh (omega (arith, fresh_small h))

      change : stored z -ℤ stored (part w.mean k) ≡ stepped A w k -ℤ part w.mean k
      change = ap₂ ◌-ℤ◌ fresh_kept old

      change_kept : stored (stored z -ℤ stored (part w.mean k)) ≡ stepped A w k -ℤ part w.mean k
      change_kept = kept w64 change (omega (arith, change_small h))

-- the mean's array has 31 numbers
mean_long : (c : After-brought_back-fresh)
    → let a = c.args in
    parts a.last ≤ length a.working.mean
mean_long c =
    let long : length c.args.working.mean ≡ 31 = search rules in
    omega (arith, parts_below c.requires)

pub overflow_mul-diagonal : goal.overflow_mul-diagonal
overflow_mul-diagonal c = omega (arith, index_below c.requires)

pub overflow_add-diagonal : goal.overflow_add-diagonal
overflow_add-diagonal c = omega (arith, index_below c.requires)

pub offset_bounds-matrix-k : goal.offset_bounds-matrix-k
offset_bounds-matrix-k c = omega (arith, index_below c.requires)

pub bounds-matrix-k : goal.bounds-matrix-k
bounds-matrix-k c = omega (arith, index_below c.requires)

pub offset_bounds-after-k : goal.offset_bounds-after-k
offset_bounds-after-k c = omega (arith, index_below c.requires)

pub bounds-after-k : goal.bounds-after-k
bounds-after-k c = omega (arith, index_below c.requires)

pub offset_bounds-after-k-2 : goal.offset_bounds-after-k-2
offset_bounds-after-k-2 c = omega (arith, index_below c.requires)

pub bounds-after-k-2 : goal.bounds-after-k-2
bounds-after-k-2 c = omega (arith, index_below c.requires)

pub overflow_sub-diagonal : goal.overflow_sub-diagonal
overflow_sub-diagonal c = let h = c.requires in fits (dividend_is h) (omega (arith, dividend_small h))

pub floor-requires : goal.floor-requires
floor-requires c = divisor_positive c.requires

pub overflow_add-old : goal.overflow_add-old
overflow_add-old c = let h = c.requires in fits (sum h c.floor.result c.floor.ensures) (moved_small h)

pub offset_bounds-after-k-3 : goal.offset_bounds-after-k-3
offset_bounds-after-k-3 c = omega (arith, index_below c.requires)

pub bounds-after-k-3 : goal.bounds-after-k-3
bounds-after-k-3 c = omega (arith, index_below c.requires)

pub overflow_sub-fresh : goal.overflow_sub-fresh
overflow_sub-fresh c =
    let h = c.requires in
    let changed = change h c.floor.result c.floor.ensures c.brought_back-fresh.result c.brought_back-fresh.ensures in
    fits changed (omega (arith, change_small h))

pub follow-requires : goal.follow-requires
follow-requires c =
    let h = c.requires in
    let changed = change_kept h c.floor.result c.floor.ensures c.brought_back-fresh.result c.brought_back-fresh.ensures in
    follows h (mean_long (goal.at.follow-requires c).After-brought_back-fresh) (search rules) changed

pub returns : goal.returns
returns c =
    let h = c.requires in
    done h (mean_long (goal.at.returns c).After-brought_back-fresh)
    (fresh_kept h c.floor.result c.floor.ensures c.brought_back-fresh.result c.brought_back-fresh.ensures)
    (change_kept h c.floor.result c.floor.ensures c.brought_back-fresh.result c.brought_back-fresh.ensures)
    _ c.follow.ensures
