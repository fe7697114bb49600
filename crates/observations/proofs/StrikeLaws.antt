-- What counts the marks of a part goes by.
use Rattle.std.specs.Prelude.{ℕ, zero, suc, ◌+◌, ◌*◌, ◌≤◌, ◌<◌, ◌≡◌, get_or, Bool, true, false, not, cond, List, eqb, length, take, drop}
use Rattle.std.specs.List.{count_by}
use Rattle.std.proofs.Common.{sym, ap, ◌∙◌, add-one, arith}
use Rattle.std.proofs.lemmas.List.{get_or-drop, length-drop}
use Rattle.std.proofs.lemmas.List.Sums.{count_by_more_yes, count_by_more_no}
use Rattle.integers.specs.Sum.{total}
use Rattle.integers.specs.Total.{total_zero, total_next, total_bound}
use Rattle.observations.specs.Arrays.{at, mark_at, unmarked}

module _ (struck : List ℕ) (k : ℕ) where
  abbrev is_left : ℕ → Bool
  is_left mark = eqb mark 0

  abbrev marks : List ℕ
  marks = drop (16 * k) struck

  abbrev counts : ℕ → ℕ
  counts i = cond (mark_at struck k i) 0 1

  one_more : (n : ℕ) → 16 * k + n < length struck → count_by is_left (take (n + 1) marks) ≡ count_by is_left (take n marks) + counts n
  one_more n inside = by_mark (eqb (at struck (16 * k + n)) 0) (ap is_left (get_or-drop (16 * k) struck n 0))
    where
      below : n < length marks
      below = omega (arith, length-drop (16 * k) struck)

      by_mark : (t : Bool) → is_left (get_or marks n 0) ≡ t
          → count_by is_left (take (n + 1) marks) ≡ count_by is_left (take n marks) + cond (not t) 0 1
      by_mark true e = count_by_more_yes is_left marks n 0 below e
      by_mark false e = count_by_more_no is_left marks n 0 below e ∙ omega arith

  -- the marks of a part, counted one by one
  pub counted_unmarked : (n : ℕ) → 16 * k + n ≤ length struck → count_by is_left (take n marks) ≡ unmarked struck k n
  counted_unmarked zero inside = sym (total_zero counts)
  counted_unmarked (suc n) inside =
      ap (λ m. count_by is_left (take m marks)) (sym (add-one n))
      ∙ one_more n (omega arith)
      ∙ ap (λ t. t + counts n) (counted_unmarked n (omega arith))
      ∙ sym (total_next n counts)
      ∙ ap (λ m. total m counts) (add-one n)

  pub unmarked_few : (n : ℕ) → unmarked struck k n ≤ n
  unmarked_few n = omega (arith, total_bound n 1 {f = counts} (λ i _. at_most_one (mark_at struck k i)))
    where
      at_most_one : (t : Bool) → cond t 0 1 ≤ 1
      at_most_one true = omega arith
      at_most_one false = omega arith
