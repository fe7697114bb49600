-- The parts of a record that no check refuses are inside the limits: so the mean of 31 parts that the code reads from it is the
-- definitions' mean, and fits.
use Rattle.std.specs.Prelude.{ℕ, ◌-◌, ◌≤◌, ◌<◌, ◌≡◌, List, ℤ, pos, nat_abs}
use Rattle.std.proofs.Common.{sym, ap, ◌∙◌, arith, leb→le}
use Rattle.definitions.specs.Words.{part}
use Rattle.definitions.specs.Layout as D
use Rattle.definitions.specs.Layout.{Bytes, signed, part_at, parts}
use Rattle.definitions.specs.Refusals.{part_limit, good_part, clear, record_check, is_clear}
use Rattle.laws.proofs.Tables.{tab_at, tab_cong}
use Rattle.laws.proofs.ClearChecks.{fields_clear}
use Rattle.layout.specs.Checks.{record_head}
use Rattle.layout.specs.CheckLaws.{then_clear, record_checks}
use Rattle.records.specs.Records.{part_padded}
use Rattle.records.specs.Parse.{padded, parts_check}
use Rattle.chain.specs.Arrays.{mean_of}
use Rattle.chain.specs.Fitting.{Inside}

module _ (last : ℕ) (r : Bytes) (passed : record_check last r ≡ clear) where
  part_small : (k : ℕ) → k < parts last → nat_abs (signed (part_at k) r) ≤ part_limit
  part_small k below =
      let all = (then_clear (record_head last r) (parts_check last r) (sym (record_checks last r) ∙ passed)).1 in
      leb→le (nat_abs (signed (part_at k) r)) part_limit
      (fields_clear (λ i. good_part (signed (part_at i) r)) 11 part_at 0 (parts last) (ap is_clear all) k (omega arith) (omega arith))

  part_is : (k : ℕ) → k < parts last → part (padded last r) k ≡ signed (part_at k) r
  part_is k below = part_padded (D.mean_of last r) (31 - parts last) k ∙ tab_at (parts last) (λ i. signed (part_at i) r) k (pos 0) below

  pub mean_inside : {m : List ℤ} → m ≡ padded last r → Inside (parts last) m
  mean_inside e = record { small = λ k below. rw (e, part_is k below) (part_small k below) }

  pub mean_is : {m : List ℤ} → m ≡ padded last r → mean_of last m ≡ D.mean_of last r
  mean_is e = ap (mean_of last) e ∙ tab_cong 0 (parts last) (λ k from below. part_is k (omega arith))
