-- The parts of a record that no check refuses are inside the limits: those of the definitions' mean, and those of the mean of 31 parts that
-- the code reads from it.
use Rattle.std.specs.Prelude.{ℕ, ◌-◌, ◌≤◌, ◌<◌, ◌≡◌, List, ℤ, pos, nat_abs}
use Rattle.std.proofs.Common.{sym, ap, ◌∙◌, arith, leb→le}
use Rattle.definitions.specs.Words.{part}
use Rattle.definitions.specs.Layout.{Bytes, signed, part_at, parts, mean_of}
use Rattle.definitions.specs.Refusals.{part_limit, good_part, clear, record_check, is_clear}
use Rattle.laws.proofs.Tables.{tab_at}
use Rattle.laws.proofs.ClearChecks.{fields_clear}
use Rattle.layout.specs.Checks.{record_head}
use Rattle.layout.specs.CheckLaws.{then_clear, record_checks}
use Rattle.records.specs.Records.{part_padded}
use Rattle.records.specs.Parse.{padded, parts_check}

module _ (last : ℕ) (r : Bytes) where
  pub part_small : record_check last r ≡ clear → (k : ℕ) → k < parts last → nat_abs (part (mean_of last r) k) ≤ part_limit
  part_small passed k below =
      let all = (then_clear (record_head last r) (parts_check last r) (sym (record_checks last r) ∙ passed)).1 in
      rw (tab_at (parts last) (λ i. signed (part_at i) r) k (pos 0) below)
      (leb→le (nat_abs (signed (part_at k) r)) part_limit
      (fields_clear (λ i. good_part (signed (part_at i) r)) 11 part_at 0 (parts last) (ap is_clear all) k (omega arith) (omega arith)))

  pub part_is : {m : List ℤ} → m ≡ padded last r → (k : ℕ) → part m k ≡ part (mean_of last r) k
  part_is e k = ap (λ m. part m k) e ∙ part_padded (mean_of last r) (31 - parts last) k
