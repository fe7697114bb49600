-- The checks that the code runs together, and what a run of fields is refused for.
use Rattle.std.specs.Prelude.{ℕ, ◌+◌, ◌*◌, ◌≤◌, ◌<◌, ◌≡◌, Bool, ◌&&◌, ◌||◌, length, leb, eqb, true, false, ℤ, Result, Ok, Err}
use Rattle.definitions.specs.Words.{within}
use Rattle.definitions.specs.Layout.{Bytes, unsigned, signed, length_word, version, last_year, file_length, record_length}
use Rattle.definitions.specs.Refusals as refusals
use Rattle.definitions.specs.Refusals.{unless, ◌then◌, fields, good_part, check2, check3, check4, check5, check6, check7, check8, check9, check10}
use Rattle.layout.specs.declared.refusals.Reason.{Reason}
use Rattle.layout.specs.declared.refusals.Refusal.{Refusal}
use Rattle.layout.specs.declared.checks.Limits.{Limits}
use Rattle.layout.specs.declared.checks.Run.{Run}

-- at least so many bytes, and as many as the length word says: check 1 of a file (10) and of a mean record (5)
abbrev pub length_check : ℕ → Bytes → refusals.Check
length_check least s = unless (leb least (length s) && eqb (length_word s) (length s)) 1 0

-- the checks of a record before its parts: 1, 2, 4
unfoldable pub record_head : ℕ → Bytes → refusals.Check
record_head J r = length_check 5 r then unless (eqb (version r) 1) 2 4 then unless (eqb (length r) (record_length J)) 4 0

-- ---- a run of fields

abbrev pub place_in : Run → ℕ → ℕ
place_in run k = run.first + run.stride * k

-- each of its fields, so many bytes wide, ends inside a string of the length n
abbrev pub run_inside : ℕ → Run → ℕ → Type 0
run_inside width run n = (k : ℕ) → k < run.count → place_in run k + width ≤ n

-- from the least to the most, and 0 where the limits have it
abbrev pub allowed : Limits → ℕ → Bool
allowed limits v = (limits.zero && eqb v 0) || within limits.low limits.high v

unfoldable pub unsigned_run : Bytes → ℕ → Run → Limits → refusals.Check
unsigned_run s number run limits = fields (λ k. allowed limits (unsigned 8 (place_in run k) s)) number (place_in run) 0 run.count

unfoldable pub signed_run : Bytes → ℕ → Run → refusals.Check
signed_run s number run = fields (λ k. good_part (signed (place_in run k) s)) number (place_in run) 0 run.count

-- what is read of a part at a place: it is inside the limits, or refused there for the reason given
abbrev pub PartRead : Bytes → ℕ → Reason → Result ℤ Refusal → Type 0
PartRead s at reason (Ok z) = (z ≡ signed at s) × (good_part (signed at s) ≡ true)
PartRead s at reason (Err r) = (r ≡ record { reason = reason; place = at }) × (good_part (signed at s) ≡ false)

-- ---- the checks that run together

-- what 3 and 4 have found of a file: it has the length of its J, which is 1 to 15
pub record Whole (s : Bytes) : Type 0 where
  pub low : 1 ≤ last_year s
  pub high : last_year s ≤ 15
  pub whole : length s ≡ file_length (last_year s)

abbrev pub figure_checks : Bytes → refusals.Check
figure_checks s = check6 s then check7 s then check8 s then check9 s then check10 s

abbrev pub header_checks : Bytes → refusals.Check
header_checks s = check2 s then check3 s then check4 s then check5 s then figure_checks s
