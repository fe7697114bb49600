-- A matrix that is filled in both halves. The entries on and below the diagonal are passed row by row, and each is put where it stands
-- and where it is mirrored; all else is 0 still.
use Rattle.std.specs.Prelude.{ℕ, ◌+◌, ◌*◌, ◌/◌, ◌%◌, ◌≤◌, ◌<◌, min, max, ◌≡◌, List, ℤ, pos, length, set, replicate}
use Rattle.std.proofs.Common.{sym, ap, ◌∙◌, arith, length-set, ext_get_or, get_or-set_same, get_or-set_other}
use Rattle.std.proofs.Math.Decide.{dec_lt}
use Rattle.std.proofs.lemmas.List.{length-replicate}
use Rattle.definitions.specs.Words.{part}
use Rattle.laws.proofs.Tables.{tab_at, tab_from_length}
use Rattle.laws.proofs.Filled.{empty_at}
use Rattle.chain.specs.Arrays.{cell}
use Rattle.showing.specs.Shown.{entry_shown, matrix_shown, entry_below, entry_behind, entry_is}

-- of row k, column l and row l, column k the place on or below the diagonal
abbrev pub lower : ℕ → ℕ → ℕ
lower k l = 31 * max k l + min k l

-- the places before c are passed
pub record Mirrored (A : List ℤ) (c : ℕ) (v : List ℤ) : Type 0 where
  pub long : length v ≡ 961
  pub passed : (i j : ℕ) → i < 31 → j < 31 → lower i j < c → part v (31 * i + j) ≡ part A (lower i j)
  pub rest : (i j : ℕ) → i < 31 → j < 31 → c ≤ lower i j → part v (31 * i + j) ≡ pos 0

pub mirrored_none : (A : List ℤ) → Mirrored A 0 (replicate 961 (pos 0))
mirrored_none A = record {
  long = length-replicate 961 (pos 0);
  passed = λ i j _ _ below. absurd (omega arith);
  rest = λ i j _ _ _. empty_at 961 (31 * i + j) (pos 0);
}

-- a place has one row
pub row_of : (k l : ℕ) → l < 31 → (31 * k + l) / 31 ≡ k
row_of k l inside = omega arith

-- one number is put
module _ (v : List ℤ) (p : ℕ) (z : ℤ) where
  put : length v ≡ 961 → p < 961 → (n : ℕ) → n ≡ p → part (set v p z) n ≡ z
  put long room n here = ap (part (set v p z)) here ∙ get_or-set_same v p z (pos 0) (omega (arith, long))

  kept : (n : ℕ) → ¬ (n ≡ p) → part (set v p z) n ≡ part v n
  kept n other = get_or-set_other v p n z (pos 0) (λ same. other (omega arith))

-- row k
module _ {A v : List ℤ} {k : ℕ} (row : k < 31) where
  -- an entry before the diagonal, and its mirror
  module _ {l : ℕ} {z : ℤ} (before : l < k) (h : Mirrored A (31 * k + l) v) (is : z ≡ part A (31 * k + l)) where
    abbrev once : List ℤ
    once = set v (31 * k + l) z

    abbrev twice : List ℤ
    twice = set once (31 * l + k) z

    below_diagonal : (n : ℕ) → n ≡ 31 * k + l → part twice n ≡ z
    below_diagonal n here = kept once (31 * l + k) z n (λ other. omega arith) ∙ put v (31 * k + l) z h.long (omega arith) n here

    above_diagonal : (n : ℕ) → n ≡ 31 * l + k → part twice n ≡ z
    above_diagonal n here = put once (31 * l + k) z (length-set v (31 * k + l) z ∙ h.long) (omega arith) n here

    elsewhere : (n : ℕ) → ¬ (n ≡ 31 * k + l) → ¬ (n ≡ 31 * l + k) → part twice n ≡ part v n
    elsewhere n first second = kept once (31 * l + k) z n second ∙ kept v (31 * k + l) z n first

    here_at : (i j : ℕ) → i < 31 → j < 31 → lower i j ≡ 31 * k + l → Dec (i < j) → part twice (31 * i + j) ≡ z
    here_at i j i-in j-in at (yes above) = above_diagonal (31 * i + j) (omega arith)
    here_at i j i-in j-in at (no not-above) = below_diagonal (31 * i + j) (omega arith)

    passed_at : (i j : ℕ) → i < 31 → j < 31 → lower i j < 31 * k + (l + 1) → Dec (lower i j < 31 * k + l)
        → part twice (31 * i + j) ≡ part A (lower i j)
    passed_at i j i-in j-in to (yes earlier) =
        elsewhere (31 * i + j) (λ same. omega arith) (λ same. omega arith) ∙ h.passed i j i-in j-in earlier
    passed_at i j i-in j-in to (no here) =
        let at : lower i j ≡ 31 * k + l = omega arith in here_at i j i-in j-in at (dec_lt i j) ∙ is ∙ ap (part A) (sym at)

    pub mirrored_next : Mirrored A (31 * k + (l + 1)) twice
    mirrored_next = record {
      long = length-set once (31 * l + k) z ∙ length-set v (31 * k + l) z ∙ h.long;
      passed = λ i j i-in j-in to. passed_at i j i-in j-in to (dec_lt (lower i j) (31 * k + l));
      rest = λ i j i-in j-in from.
          elsewhere (31 * i + j) (λ same. omega arith) (λ same. omega arith) ∙ h.rest i j i-in j-in (omega arith);
    }

-- the rows before k are what is shown of k parts
pub mirrored_is : {A v : List ℤ} (k : ℕ) → Mirrored A (31 * k) v → v ≡ matrix_shown k A
unfolding cell
mirrored_is {A} {v} k h = ext_get_or (pos 0) v _ (h.long ∙ sym (tab_from_length 0 961 (entry_shown k A)))
    (λ c below. at c (omega (arith, h.long)))
  where
    by_place : (c : ℕ) → c < 961 → Dec (c / 31 < k) → Dec (c % 31 < k) → part v (31 * (c / 31) + c % 31) ≡ entry_shown k A c
    by_place c room (no under) column =
        h.rest (c / 31) (c % 31) (omega arith) (omega arith) (omega arith) ∙ sym (entry_below k A c (omega arith))
    by_place c room (yes row) (no behind) =
        h.rest (c / 31) (c % 31) (omega arith) (omega arith) (omega arith) ∙ sym (entry_behind k A c row (omega arith))
    by_place c room (yes row) (yes column) =
        h.passed (c / 31) (c % 31) (omega arith) (omega arith) (omega arith) ∙ sym (entry_is k A c row column)

    at : (c : ℕ) → c < 961 → part v c ≡ part (matrix_shown k A) c
    at c room =
        ap (part v) (omega arith) ∙ by_place c room (dec_lt (c / 31) k) (dec_lt (c % 31) k)
        ∙ sym (tab_at 961 (entry_shown k A) c (pos 0) room)
