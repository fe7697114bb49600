-- Document 02's amounts to 2^44. Number 9 stands here twice, side by side: by the test that it has, and by one that takes amounts to 2^40
-- alone. What the second lets through is let through alike; and the two part at amounts above 2^40 and up to 2^44, and nowhere else.
-- `PinnedAmounts` draws it once more.
use Rattle.std.specs.Prelude.{ℕ, ◌*◌, ◌≤◌, ◌<◌, ◌≡◌, refl, ◌⊎◌, Bool, ◌&&◌, leb}
use Rattle.std.proofs.Common.{sym, ◌∙◌, inl, inr, arith, le-leb}
use Rattle.std.proofs.Math.Path.{ap}
use Rattle.std.proofs.lemmas.Bool.{lt-leb}
use Rattle.definitions.specs.Layout.{Bytes, last_year, cells, amount, amount_at}
use Rattle.definitions.specs.Refusals.{Check, ◌then◌, fields, amount_limit, good_amount, file_check}
use Rattle.definitions.specs.Refusals.{check1, check2, check3, check4, check5, check6, check7, check8, check9, check10}
use Rattle.laws.specs.ClearChecks.{Kept}
use Rattle.laws.proofs.ClearChecks.{kept_first, kept_second, fields_kept, fields_same}
use Rattle.laws.proofs.Accepted.{within_yes}
use Rattle.laws.specs.LargerAmounts.{lower_limit, small}

-- ---- number 9 by some test of an amount; the other numbers as they are

module _ (good : ℕ → Bool) where
  abbrev pub check9By : Bytes → Check
  check9By f = fields (λ c. good (amount f c)) 9 (amount_at (last_year f)) 0 (2 * cells (last_year f))

  abbrev pub file_check_by : Bytes → Check
  file_check_by f =
      check1 f then check2 f then check3 f then check4 f then check5 f then check6 f then check7 f then check8 f
      then check9By f then check10 f

-- by the test that it has it is the definitions' check
pub file_check_is : (f : Bytes) → file_check_by good_amount f ≡ file_check f
unfolding file_check check9
file_check_is f = refl

same_test : (a : ℕ) → (a ≤ lower_limit) ⊎ (amount_limit < a) → small a ≡ good_amount a
same_test a (inl few) = ap (λ t. leb 1 a && t) (le-leb a lower_limit few ∙ sym (le-leb a amount_limit (omega arith)))
same_test a (inr many) = ap (λ t. leb 1 a && t) (lt-leb a lower_limit (omega arith) ∙ sym (lt-leb a amount_limit many))

module _ (f : Bytes) where
  abbrev n : ℕ
  n = 2 * cells (last_year f)

  check9_kept : Kept (check9By small f) (check9 f)
  unfolding check9
  check9_kept =
      fields_kept _ _ 9 (amount_at (last_year f)) n
      (λ c t. same_test (amount f c) (inl (within_yes 1 lower_limit (amount f c) t).to))

  -- what the one lets through, the other does
  pub amounts_kept : Kept (file_check_by small f) (file_check f)
  unfolding file_check
  amounts_kept =
      kept_second (check1 f) (kept_second (check2 f) (kept_second (check3 f) (kept_second (check4 f) (kept_second (check5 f)
      (kept_second (check6 f) (kept_second (check7 f) (kept_second (check8 f) (kept_first _ check9_kept))))))))

  -- where no amount is between, every file is let through or refused alike, with number and place
  pub same_but_between : ((c : ℕ) → c < n → (amount f c ≤ lower_limit) ⊎ (amount_limit < amount f c)) → file_check_by small f ≡ file_check f
  unfolding file_check check9
  same_but_between outside =
      let same : check9By small f ≡ check9By good_amount f =
      fields_same _ _ 9 (amount_at (last_year f)) 0 n (λ c from to. same_test (amount f c) (outside c (omega arith))) in
      ap (λ ninth. check1 f then check2 f then check3 f then check4 f then check5 f then check6 f then check7 f then check8 f
      then ninth then check10 f) same
