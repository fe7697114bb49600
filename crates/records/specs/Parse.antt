-- The contract of reading a record: the checks, and the mean of one that they let pass.
use Rattle.std.specs.Prelude.{ℕ, ◌-◌, ◌≡◌, List, ◌++◌, ℤ, pos, length, replicate, eqb, Result, Ok, Err}
use Rattle.std.proofs.Common.{sym, ap, ◌∙◌, eqb-true}
use Rattle.definitions.specs.Layout.{Bytes, version, signed, parts, part_at, record_length, mean_of}
use Rattle.definitions.specs.Refusals as refusals
use Rattle.definitions.specs.Refusals.{clear, refuses, unless, ◌then◌, fields, good_part, record_check}
use Rattle.layout.specs.declared.refusals.Refusal.{Refusal}
use Rattle.layout.specs.Refusals.{told, number_of}
use Rattle.layout.specs.Checks.{length_check, record_head}
use Rattle.layout.specs.CheckLaws.{then_clear, unless_clear, record_checks}

-- a record's mean, zeros behind its parts
abbrev pub padded : ℕ → Bytes → List ℤ
padded last r = mean_of last r ++ replicate (31 - parts last) (pos 0)

-- check 11
abbrev pub parts_check : ℕ → Bytes → refusals.Check
parts_check last r = fields (λ k. good_part (signed (part_at k) r)) 11 part_at 0 (parts last)

-- what the checks say of a record, and the mean of one that they let pass
pub record ParsedParts (last : ℕ) (r : Bytes) (p : Result (List ℤ) Refusal) : Type 0 where
  pub checked : told p ≡ parts_check last r
  pub is : (m : List ℤ) → p ≡ Ok m → m ≡ padded last r

pub record ParsedRecord (last : ℕ) (r : Bytes) (p : Result (List ℤ) Refusal) : Type 0 where
  pub checked : told p ≡ record_check last r
  pub is : (m : List ℤ) → p ≡ Ok m → m ≡ padded last r

-- a part that is refused ends the reading
pub part_refused : {last : ℕ} {r : Bytes} (refusal : Refusal) → refuses (number_of refusal.reason) refusal.place ≡ parts_check last r
    → ParsedParts last r (Err refusal)
part_refused refusal e = record { checked = e; is = λ m k. cc }

-- so does a head that is refused
pub head_refused : {last : ℕ} {r : Bytes} (refusal : Refusal) → refuses (number_of refusal.reason) refusal.place ≡ record_head last r
    → ParsedRecord last r (Err refusal)
head_refused {last} {r} refusal h = record {
  checked = ap (λ x. x then parts_check last r) h ∙ sym (record_checks last r);
  is = λ m k. cc;
}

-- and behind a head that is not, the parts decide
pub head_clear : {last : ℕ} {r : Bytes} {p : Result (List ℤ) Refusal} → record_head last r ≡ clear → ParsedParts last r p
    → ParsedRecord last r p
head_clear {last} {r} h parsed = record {
  checked = parsed.checked ∙ ap (λ x. x then parts_check last r) (sym h) ∙ sym (record_checks last r);
  is = parsed.is;
}

-- a head that is not refused tells the length
pub head_length : (last : ℕ) (r : Bytes) → record_head last r ≡ clear → length r ≡ record_length last
unfolding record_head
head_length last r h =
    let behind-1 = (then_clear (length_check 5 r) _ h).1 in
    let behind-2 = (then_clear (unless (eqb (version r) 1) 2 4) _ behind-1).1 in
    eqb-true (length r) (record_length last) (unless_clear (eqb (length r) (record_length last)) 4 0 behind-2)
