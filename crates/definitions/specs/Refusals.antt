-- Specification, "Refusals": the checks of the input, one after another, each over its fields in their order. A check answers
-- `clear`, or a number and the place of the field that is refused, which is 0 where none is to blame.
use Rattle.std.specs.Prelude.{ℕ, zero, suc, ◌*◌, ◌^◌, Bool, true, false, ◌&&◌, ◌||◌, length, ℤ, nat_abs, leb, eqb}
use Rattle.definitions.specs.Words.{within}
use Rattle.definitions.specs.Layout.{Bytes, length_word, version, last_year, closeness, parts, variance_at, prior_mean_at, prior_variance_at}
use Rattle.definitions.specs.Layout.{amount_at, paid_at, file_length, variance_of, prior_mean, prior_variance, amount, paid, incurred}
use Rattle.definitions.specs.Layout.{cells, record_length, part_at, signed}

pub data Check : Type 0 where
  clear : Check
  refuses : (number place : ℕ) → Check

-- one condition: refused unless it holds
abbrev pub unless : Bool → ℕ → ℕ → Check
unless true number place = clear
unless false number place = refuses number place

-- one check, then the next: the first refusal counts
infixr 20 ◌then◌
abbrev pub ◌then◌ : Check → Check → Check
clear then next = next
refuses number place then next = refuses number place

abbrev pub is_clear : Check → Bool
is_clear clear = true
is_clear (refuses number place) = false

-- the fields i, i + 1, …, n of them: the first that is not good is refused
unfoldable pub fields : (ℕ → Bool) → ℕ → (ℕ → ℕ) → ℕ → ℕ → Check
fields good number place_of i zero = clear
fields good number place_of i (suc n) = unless (good i) number (place_of i) then fields good number place_of (suc i) n

-- ---- limits

abbrev pub year_limit : ℕ
year_limit = 15

abbrev pub closeness_limit : ℕ
closeness_limit = 65536

abbrev pub amount_limit : ℕ
amount_limit = 2 ^ 44

-- a variance of the file: 2^18 to 2^40
abbrev pub good_variance : ℕ → Bool
good_variance v = within (2 ^ 18) (2 ^ 40) v

-- of a prior: 2^18 to 2^46, or 0, by which the part has no prior: its weight is 0
abbrev pub good_prior_variance : ℕ → Bool
good_prior_variance v = eqb v 0 || within (2 ^ 18) (2 ^ 46) v

-- a prior mean or a mean's part: −2^26 to 2^26
abbrev pub part_limit : ℕ
part_limit = 2 ^ 26

abbrev pub good_part : ℤ → Bool
good_part z = leb (nat_abs z) part_limit

abbrev pub good_amount : ℕ → Bool
good_amount a = within 1 amount_limit a

-- ---- the checks of a file

unfoldable pub check1 : Bytes → Check
check1 s = unless (leb 10 (length s) && eqb (length_word s) (length s)) 1 0

unfoldable pub check2 : Bytes → Check
check2 s = unless (eqb (version s) 1) 2 4

unfoldable pub check3 : Bytes → Check
check3 s = unless (within 1 year_limit (last_year s)) 3 5

unfoldable pub check4 : Bytes → Check
check4 s = unless (eqb (length s) (file_length (last_year s))) 4 0

unfoldable pub check5 : Bytes → Check
check5 s = unless (within 1 closeness_limit (closeness s)) 5 6

unfoldable pub check6 : Bytes → Check
check6 s = fields (λ k. good_variance (variance_of s k)) 6 variance_at 0 (parts (last_year s))

-- every prior variance before any prior mean
unfoldable pub check7 : Bytes → Check
check7 s = fields (λ k. good_prior_variance (prior_variance s k)) 7 (prior_variance_at (last_year s)) 0 (parts (last_year s))

unfoldable pub check8 : Bytes → Check
check8 s = fields (λ k. good_part (prior_mean s k)) 8 (prior_mean_at (last_year s)) 0 (parts (last_year s))

-- the paid block's cells, then the incurred block's
unfoldable pub check9 : Bytes → Check
check9 s = fields (λ c. good_amount (amount s c)) 9 (amount_at (last_year s)) 0 (2 * cells (last_year s))

-- in year 0 what was paid in the end is what was incurred
unfoldable pub check10 : Bytes → Check
check10 s = unless (eqb (paid s 0 (last_year s)) (incurred s 0 (last_year s))) 10 (paid_at (last_year s) 0 (last_year s))

-- 1 to 10, which open and row share
unfoldable pub file_check : Bytes → Check
file_check s =
    check1 s then check2 s then check3 s then check4 s then check5 s then check6 s then check7 s then check8 s then check9 s then check10 s

-- a file that none of them refuses, and these are all of open's checks of its input
abbrev pub accepted : Bytes → Bool
accepted s = is_clear (file_check s)

-- ---- the row: after 1 to 10, channel (14) and year (15)

unfoldable pub row_check : Bytes → ℕ → ℕ → Check
row_check s channel year = file_check s then unless (leb channel 1) 14 0 then unless (leb year (last_year s)) 15 0

-- ---- a mean record for the J of an open file: 1, 2, 4, 11

unfoldable pub record_check : ℕ → Bytes → Check
record_check J r =
    unless (leb 5 (length r) && eqb (length_word r) (length r)) 1 0
    then unless (eqb (version r) 1) 2 4
    then unless (eqb (length r) (record_length J)) 4 0
    then fields (λ k. good_part (signed (part_at k) r)) 11 part_at 0 (parts J)
