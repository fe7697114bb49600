-- `figures::matrix::fill_row` meets its contract: the row's shares by its kind, and the own weight on the diagonal, where
-- the sum does not wrap.
use Prim.Native.Nat.{ℕ, ◌+◌, ◌*◌, ◌^◌, ◌<◌, min}
use mathlib.Core.Path.{◌≡◌, refl, sym, ap, ap₂, subst, ◌∙◌}
use mathlib.Core.List.{List}
use native.Mathlib.Omega.{arith}
use lib.IntN.{ℤ, pos, nat_abs, ◌+ℤ◌}
use lib.ListN.{set}
use mir.Syntax.{w64}
use mir.Val.{to_z, of_z}
use mir.Facts.{to_z_pos}
use Rattle.std.proofs.Math.IntN.{+ℤ_comm}
use Rattle.integers.specs.Size.{fits, kept, nat_abs-+}
use Rattle.definitions.specs.Words.{part}
use Rattle.definitions.specs.Layout.{parts}
use Rattle.definitions.specs.Matrix.{part_by_index}
use Rattle.laws.specs.Ranks.{rank_of}
use Rattle.laws.proofs.Ranks.{rank_below}
use Rattle.integers.specs.Bits.{stored, read}
use Rattle.observations.specs.Arrays.{at}
use Rattle.figures.specs.Entries.{share_of, entry_of, Stretch}
use Rattle.figures.specs.EntryLaws.{share_size, turned_small, phi_row, psi_row, entry_on, entry_off, stretch_as, stretch_put}
use Rattle.figures.proofs.matrix.fill_row.Goals as goal
use Rattle.figures.proofs.matrix.fill_row.Goals.{then-k-last, else-k-last, Joined-k-last}

pub fill_shares-requires : goal.fill_shares-requires
fill_shares-requires c =
    let p = c.requires in
    let small = p.of_row.of_matrix.shares_small in
    record { long = p.long; few = p.of_row.of_matrix.few; row = p.of_row.row; phis_small = small; psis_small = turned_small p.of_turned small }

pub fill_shares-requires-else-k-last : goal.fill_shares-requires-else-k-last
fill_shares-requires-else-k-last c =
    let p = c.requires in
    let small = p.of_row.of_matrix.shares_small in
    record { long = p.long; few = p.of_row.of_matrix.few; row = p.of_row.row; phis_small = turned_small p.of_turned small; psis_small = small }

-- the row before the own weight is added, and its diagonal entry
module _ (c : Joined-k-last) where
  abbrev J : ℕ
  J = c.args.last

  abbrev k : ℕ
  k = c.args.k

  abbrev shared : ℕ → ℤ
  shared = share_of c.args.shares.now J k

  abbrev own : ℕ
  own = at c.args.own.now k

  -- this row, from the matrix as it was
  abbrev Row : (ℕ → ℤ) → List ℤ → Type 0
  Row f m = Stretch (parts J) (31 * k) f c.args.matrix.now m

  filled : Row shared c.if-k-last.matrix
  filled =
      let turned = c.requires.of_turned in
      let row = c.requires.of_row.row in
      elim c.if-k-last.branch [
        | then-k-last w ↦ subst (Row shared) (sym w.matrix-is) (stretch_as w.fill_shares.ensures (phi_row turned k row w.if-k-last.true))
        | else-k-last w ↦
            subst (Row shared) (sym w.matrix-is) (stretch_as w.fill_shares-else-k-last.ensures (psi_row turned k row w.if-k-last.false))
      ]

  abbrev diagonal : ℤ
  diagonal = part c.if-k-last.matrix (32 * k)

  diagonal_is : diagonal ≡ shared k
  diagonal_is = let place : 32 * k ≡ 31 * k + k = omega arith in ap (part c.if-k-last.matrix) place ∙ filled.there k c.requires.of_row.row

  diagonal_small : nat_abs diagonal < 2 ^ 40
  diagonal_small =
      let rank = rank_of (part_by_index J k) in
      subst (λ n. n < 2 ^ 40) (sym (ap nat_abs diagonal_is ∙ share_size (part_by_index J k) (part_by_index J k) (part c.args.shares.now (min rank rank))))
      (c.requires.of_row.of_matrix.shares_small (min rank rank) (omega (arith, rank_below J k c.requires.of_row.row)))

  own_small : own < 2 ^ 40
  own_small = c.requires.of_row.of_matrix.own_small k c.requires.of_row.row

  whole : to_z w64 (of_z w64 diagonal) +ℤ to_z w64 own ≡ pos own +ℤ diagonal
  whole = ap₂ ◌+ℤ◌ (read diagonal (omega (arith, diagonal_small))) (to_z_pos w64 (omega (arith, own_small))) ∙ +ℤ_comm diagonal (pos own)

  whole_small : nat_abs (pos own +ℤ diagonal) < 2 ^ 63
  whole_small = omega (arith, own_small, diagonal_small, nat_abs-+ (pos own) diagonal)

pub overflow_cast-matrix : goal.overflow_cast-matrix
overflow_cast-matrix c = fits refl (omega (arith, own_small (goal.at.overflow_cast-matrix c).Joined-k-last))

pub overflow_add-matrix : goal.overflow_add-matrix
overflow_add-matrix c =
    let joined = (goal.at.overflow_add-matrix c).Joined-k-last in
    fits (whole joined) (whole_small joined)

pub returns : goal.returns
returns c =
    let joined = (goal.at.returns c).Joined-k-last in
    let own_of_lem = c.args.own.now in
    let shares_of = c.args.shares.now in
    let value = stored (stored (diagonal joined) +ℤ to_z w64 (own joined)) in
    let place : 31 * k joined + k joined ≡ 32 * k joined = omega arith in
    record {
      whole = subst (λ i. Row joined (entry_of own_of_lem shares_of (J joined) (k joined)) (set c.if-k-last.matrix i value)) place
          (stretch_put (filled joined) (omega (arith, c.requires.of_row.row, c.requires.of_row.of_matrix.few))
          (kept w64 (whole joined) (whole_small joined) ∙ ap (λ z. pos (own joined) +ℤ z) (diagonal_is joined)
          ∙ entry_on own_of_lem shares_of (J joined) (k joined))
          (λ l below apart. (below, entry_off own_of_lem shares_of (J joined) (k joined) l apart)));
    }
