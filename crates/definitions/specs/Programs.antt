-- Specification, "The calls": what the two programs print for the bytes on their standard input, by the answers of the session machine.
use Rattle.std.specs.Prelude.{ℕ, cond, List, [], ◌∷◌, ◌++◌, leb, ℤ, length}
use Rattle.definitions.specs.Words.{part}
use Rattle.definitions.specs.Layout.{Bytes, parts}
use Rattle.definitions.specs.Matrix.{Part, part_by_index, Figures}
use Rattle.definitions.specs.Strikes.{StruckFile, figures_left}
use Rattle.definitions.specs.Text.{ascii, space, line_feed, decimal, signed_decimal, name_of, index_of, lines}
use Rattle.definitions.specs.Machine.{Answer, refused, opened, judged, settled, going, written, ultimate_is, struck_out, part_shown, row_is_shown, closed}
use Rattle.definitions.specs.Machine.{State, empty, holds, page_in, the_file, open_call, sweep_call}

-- ---- lines

-- a name and a number
abbrev pub count_line : Bytes → ℕ → Bytes
count_line name n = (name ++ decimal n) ++ line_feed ∷ []

-- a name, an index and a mean in ticks, a space between them
unfoldable pub part_line : Part → ℤ → Bytes
part_line p mean = name_of p ++ space ∷ decimal (index_of p) ++ space ∷ signed_decimal mean ++ line_feed ∷ []

-- `refused `, a number, ` at `, a place
abbrev pub refusal_line : ℕ → ℕ → Bytes
refusal_line number place = (ascii "refused " ++ decimal number) ++ count_line (ascii " at ") place

-- `spent `
abbrev pub spent_line : ℕ → Bytes
spent_line total = count_line (ascii "spent ") total

-- ---- what both programs do: open, sweep with n = 4,096, and show the mean that settled

-- what is printed by an answer: a refusal alone; else what goes with the answer
abbrev pub printed : Answer → Bytes → (ℕ → Bytes) → Bytes
printed (refused number place) next settles = refusal_line number place
printed opened next settles = next
printed (judged verdict) next settles = next
printed (settled total) next settles = settles total
printed (going total) next settles = spent_line total
printed written next settles = next
printed (ultimate_is figure) next settles = next
printed struck_out next settles = next
printed (part_shown bytes) next settles = next
printed row_is_shown next settles = next
printed closed next settles = next

-- what is shown of figures, a mean that settled and the sweeps that were run
abbrev pub Show : Type 0
Show = Figures → List ℤ → ℕ → Bytes

module _ (show : Show) where
  abbrev pub shown : State StruckFile → Bytes
  shown empty = []
  shown (holds f μ total) = show (figures_left f) μ total

  unfoldable pub sweep_text : State StruckFile → Bytes
  sweep_text st = let swept = sweep_call figures_left st 4096 in printed swept.answer [] (λ total. shown swept.state)

  unfoldable pub open_text : Bytes → Bytes
  open_text given =
      let opening = open_call the_file empty given in
      printed opening.answer (sweep_text opening.state) (λ total. [])

  -- an input beyond 2,806 bytes is refused
  unfoldable pub program_text : Bytes → Bytes
  program_text given = cond (leb 2807 (length given)) (refusal_line 1 0) (open_text given)

-- ---- the two programs

-- `J `, `sweeps `, and a line for each part
unfoldable pub listed : Show
listed F μ total =
    (count_line (ascii "J ") F.last ++ count_line (ascii "sweeps ") total)
    ++ lines (λ k. part_line (part_by_index F.last k) (part μ k)) (parts F.last)

abbrev pub listing : Bytes → Bytes
listing = program_text listed

abbrev pub paged : Show
paged F μ total = page_in F μ

abbrev pub board_page : Bytes → Bytes
board_page = program_text paged
