-- What is shown of a session's figures: arrays of the largest size that have each part's number, the matrix in both halves, and zeros
-- behind the parts.
use Rattle.std.specs.Prelude.{ℕ, ◌/◌, ◌%◌, ◌≤◌, ◌<◌, ◌≡◌, ℤ, pos, get_or}
use Rattle.std.proofs.Common.{sym, ◌∙◌, arith, ext_get_or}
use Rattle.std.proofs.Math.Path.{ap}
use mathlib.Core.List.{List, []}
use Rattle.std.proofs.Math.Decide.{dec_lt}
use Rattle.std.proofs.Math.ListN.{get_or-eq_default}
use Rattle.definitions.specs.Words.{tab_from, part}
use Rattle.laws.proofs.Tables.{tab_at, tab_from_length}
use Rattle.laws.specs.Filled.{Filled}
use Rattle.chain.specs.Arrays.{cell}

pub record OfParts (count : ℕ) : Type 0 where
  pub few : count ≤ 31

abbrev pub front_shown : {A : Type 0} → ℕ → A → List A → List A
front_shown count empty v = tab_from 0 31 (λ k. get_or (tab_from 0 count (λ i. get_or v i empty)) k empty)

abbrev pub own_shown : ℕ → List ℕ → List ℕ
own_shown count D = front_shown count 0 D

abbrev pub right_hand_shown : ℕ → List ℤ → List ℤ
right_hand_shown count b = front_shown count (pos 0) b

unfoldable pub entry_shown : ℕ → List ℤ → ℕ → ℤ
entry_shown count A c = part (get_or (tab_from 0 count (λ k. tab_from 0 count (cell A k))) (c / 31) []) (c % 31)

abbrev pub matrix_shown : ℕ → List ℤ → List ℤ
matrix_shown count A = tab_from 0 961 (entry_shown count A)

-- ---- behind the end of a table

module _ {A : Type 0} (n : ℕ) (f : ℕ → A) where
  behind : (k : ℕ) (d : A) → n ≤ k → get_or (tab_from 0 n f) k d ≡ d
  behind k d h = get_or-eq_default (tab_from 0 n f) d (omega (arith, tab_from_length 0 n f))

  -- an array that is filled from the front
  pub filled_is : {size : ℕ} {empty : A} {v : List A} → n ≤ size → Filled size n empty f v
      → v ≡ tab_from 0 size (λ k. get_or (tab_from 0 n f) k empty)
  filled_is {size} {empty} {v} room h =
      ext_get_or empty v _ (h.long ∙ sym (tab_from_length 0 size _)) (λ k below. at k (omega (arith, h.long)))
    where
      by_place : (k : ℕ) → Dec (k < n) → get_or v k empty ≡ get_or (tab_from 0 n f) k empty
      by_place k (yes below) = h.front k below ∙ sym (tab_at n f k empty below)
      by_place k (no past) = h.rest k (omega arith) ∙ sym (behind k empty (omega arith))

      at : (k : ℕ) → k < size → get_or v k empty ≡ get_or (tab_from 0 size (λ i. get_or (tab_from 0 n f) i empty)) k empty
      at k below = by_place k (dec_lt k n) ∙ sym (tab_at size (λ i. get_or (tab_from 0 n f) i empty) k empty below)

-- ---- an entry of the matrix

module _ (count : ℕ) (A : List ℤ) (c : ℕ) where
  pub entry_below : count ≤ c / 31 → entry_shown count A c ≡ pos 0
  unfolding entry_shown
  entry_below h = ap (λ row. part row (c % 31)) (behind count _ (c / 31) [] h)

  module _ (row : c / 31 < count) where
    entry_row : entry_shown count A c ≡ part (tab_from 0 count (cell A (c / 31))) (c % 31)
    unfolding entry_shown
    entry_row = ap (λ l. part l (c % 31)) (tab_at count (λ k. tab_from 0 count (cell A k)) (c / 31) [] row)

    pub entry_behind : count ≤ c % 31 → entry_shown count A c ≡ pos 0
    entry_behind h = entry_row ∙ behind count _ (c % 31) (pos 0) h

    module _ (column : c % 31 < count) where
      pub entry_is : entry_shown count A c ≡ cell A (c / 31) (c % 31)
      entry_is = entry_row ∙ tab_at count (cell A (c / 31)) (c % 31) (pos 0) column
