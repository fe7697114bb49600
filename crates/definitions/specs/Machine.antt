-- Specification, "The calls" and "Refusals", in their orders: for every state and call the answer,
-- and the state and the lent buffer afterwards. A refused call leaves both as they were.
use Rattle.std.specs.Prelude.{ℕ, Bool, not, cond, List, [], ◌∷◌, ◌++◌, ℤ, length, drop, leb, ltb}
use Rattle.definitions.specs.Words.{within, tab_from, part}
use Rattle.definitions.specs.Layout.{Bytes, last_year, parts, prior_mean, row_bytes, record_length, mean_of, record_of}
use Rattle.definitions.specs.Refusals.{Check, clear, refuses, unless, ◌then◌, file_check, row_check, record_check}
use Rattle.definitions.specs.Observations.{Chain}
use Rattle.definitions.specs.Matrix.{Figures, Judgement, judgement, passes}
use Rattle.definitions.specs.Residues.{residues_length, residue_bytes}
use Rattle.definitions.specs.Strikes.{Step, strike_check, StruckFile, is_struck, unstruck, chain_left, figures_left}
use Rattle.definitions.specs.Sweep.{Swept, sweeps, sweep_limit}
use Rattle.definitions.specs.Page.{page_of, page_length}
use Rattle.definitions.specs.Ultimate.{Latest, latest_of, Ultimate, ultimate_of}

-- ---- calls, answers, states

pub data Call : Type 0 where
  open_file : (file : Bytes) → Call
  judge : (meanRecord : Bytes) → Call
  sweep : (n : ℕ) → Call
  read : (buffer : Bytes) → Call
  page : (buffer : Bytes) → Call
  ultimate : (year : ℕ) → Call
  strike : Step → Call
  residues : (meanRecord buffer : Bytes) → Call
  row : (file : Bytes) (channel year : ℕ) → Call
  row_told : (file : Bytes) (channel year : ℕ) → Call
  close : Call

pub data Answer : Type 0 where
  refused : (number place : ℕ) → Answer
  opened : Answer
  judged : Judgement → Answer
  settled : (total : ℕ) → Answer
  going : (total : ℕ) → Answer
  written : Answer
  ultimate_is : Ultimate → Answer
  struck_out : Answer
  part_shown : Bytes → Answer
  row_is_shown : Answer
  closed : Answer

abbrev pub refused_or : Check → Answer → Answer
refused_or clear a = a
refused_or (refuses number place) a = refused number place

-- Nothing, or what is kept of an open file, with its mean and how many sweeps were run.
pub data State (X : Type 0) : Type 0 where
  empty : State X
  holds : X → List ℤ → ℕ → State X

-- the same with something else kept in its place
abbrev pub map_state : {X Y : Type 0} → (X → Y) → State X → State Y
map_state φ empty = empty
map_state φ (holds x μ total) = holds (φ x) μ total

-- What is kept of a file: how, and what the calls use of it. The specification's machine keeps the file itself with its struck steps; a
-- session keeps arrays.
pub record Keeping (X : Type 0) : Type 0 where
  pub keep : Bytes → X
  pub figures : X → Figures
  pub prior_means : X → List ℤ
  pub latest : X → Latest
  -- the observations that are left, with their weights
  pub chain : X → Chain
  pub struck : X → Step → Bool
  -- the same with one step more struck out
  pub strike_out : Step → X → X

-- the buffer is the one that `read`, `page` or `residues` was lent, and no byte for any other call
pub record Outcome (X : Type 0) : Type 0 where
  pub answer : Answer
  pub state : State X
  pub buffer : Bytes

-- ---- row: needs no session

-- empty exactly when refused
abbrev pub part_unless : Check → Bytes → Bytes
part_unless clear b = b
part_unless (refuses number place) b = []

unfoldable pub row_part : Bytes → ℕ → ℕ → Bytes
row_part f channel year = part_unless (row_check f channel year) (row_bytes f channel year)

-- ---- what is written of a mean

abbrev pub record_in : Figures → List ℤ → Bytes
record_in F μ = record_of F.last μ

abbrev pub page_in : Figures → List ℤ → Bytes
page_in F μ = page_of F.last μ F.own

-- ---- judge, sweep, read and page, which use the figures alone

-- a call that answers and leaves the state as it was
abbrev pub answers : {X : Type 0} → State X → Answer → Outcome X
answers st a = record { answer = a; state = st; buffer = [] }

-- the same with the buffer that it was lent
abbrev pub writes : {X : Type 0} → State X → Answer → Bytes → Outcome X
writes st a b = record { answer = a; state = st; buffer = b }

module _ {X : Type 0} (figures : X → Figures) where
  unfoldable pub judge_call : State X → Bytes → Answer
  judge_call empty r = refused 21 0
  judge_call (holds x μ total) r =
      refused_or (record_check (figures x).last r) (judged (judgement (figures x) (part (mean_of (figures x).last r))))

  -- the mean that is held from now on decides the answer
  abbrev pub swept_to : X → Swept → Outcome X
  swept_to x h = record {
    answer = cond (passes (figures x) (part h.mean)) (settled h.swept) (going h.swept);
    state = holds x h.mean h.swept;
    buffer = [];
  }

  -- 21, 12, settled, 23
  unfoldable pub sweep_call : State X → ℕ → Outcome X
  sweep_call empty n = answers empty (refused 21 0)
  sweep_call (holds x μ total) n =
      let swept = swept_to x (sweeps (figures x) n μ total) in
      cond (not (within 1 sweep_limit n)) (answers (holds x μ total) (refused 12 0))
      (cond (passes (figures x) (part μ)) (answers (holds x μ total) (settled total))
      (cond (leb sweep_limit total) (answers (holds x μ total) (refused 23 0)) swept))

  -- 21, 24, 13: of a mean that passes a text is written, so many bytes for a J; those behind it stay
  unfoldable pub write_call : (ℕ → ℕ) → (Figures → List ℤ → Bytes) → State X → Bytes → Outcome X
  write_call size text empty b = writes empty (refused 21 0) b
  write_call size text (holds x μ total) b =
      cond (not (passes (figures x) (part μ))) (writes (holds x μ total) (refused 24 0) b)
      (cond (ltb (length b) (size (figures x).last)) (writes (holds x μ total) (refused 13 0) b)
      (writes (holds x μ total) written (text (figures x) μ ++ drop (size (figures x).last) b)))

  abbrev pub read_call : State X → Bytes → Outcome X
  read_call = write_call record_length record_in

  abbrev pub page_call : State X → Bytes → Outcome X
  page_call = write_call page_length page_in

-- ---- ultimate, which uses the latest amounts besides

-- 21, 24, 25
unfoldable pub ultimate_call : {X : Type 0} → (X → Figures) → (X → Latest) → State X → ℕ → Answer
ultimate_call figures latest empty year = refused 21 0
ultimate_call figures latest (holds x μ total) year =
    cond (not (passes (figures x) (part μ))) (refused 24 0)
    (cond (not (within 1 (figures x).last year)) (refused 25 0)
    (ultimate_is (ultimate_of (figures x).last (latest x) year (part μ))))

-- ---- residues, which uses the observations that are left

abbrev pub writes_unless : {X : Type 0} → Check → State X → (text buffer : Bytes) → Outcome X
writes_unless clear st text b = writes st written (text ++ drop (length text) b)
writes_unless (refuses number place) st text b = writes st (refused number place) b

-- 21, then of the record 1, 2, 4, 11, then 13: of the record's mean, whoever wrote it, the residues are written; the bytes behind them stay
unfoldable pub residues_call : {X : Type 0} → (X → Chain) → State X → Bytes → Bytes → Outcome X
residues_call chain empty r b = writes empty (refused 21 0) b
residues_call chain (holds x μ total) r b =
    let J : ℕ = (chain x).last in
    writes_unless (record_check J r then unless (leb (residues_length J) (length b)) 13 0) (holds x μ total)
    (residue_bytes (chain x) (part (mean_of J r))) b

-- ---- strike, which changes what is kept

module _ {X : Type 0} (K : Keeping X) where
  -- the mean goes back to the prior means and the total to 0
  abbrev pub strike_unless : Check → Step → X → List ℤ → ℕ → Outcome X
  strike_unless clear s x μ total = record { answer = struck_out; state = holds (K.strike_out s x) (K.prior_means x) 0; buffer = [] }
  strike_unless (refuses number place) s x μ total = answers (holds x μ total) (refused number place)

  -- 21, then 14, 26, 27
  unfoldable pub strike_call : State X → Step → Outcome X
  strike_call empty s = answers empty (refused 21 0)
  strike_call (holds x μ total) s = strike_unless (strike_check (K.figures x).last (K.struck x) s) s x μ total

-- ---- all calls, over what is kept

module _ {X : Type 0} (K : Keeping X) where
  -- the mean starts at the prior means, and no sweep is run
  abbrev pub open_unless : Check → Bytes → Outcome X
  open_unless clear f = record { answer = opened; state = holds (K.keep f) (K.prior_means (K.keep f)) 0; buffer = [] }
  open_unless (refuses number place) f = answers empty (refused number place)

  unfoldable pub open_call : State X → Bytes → Outcome X
  open_call empty f = open_unless (file_check f) f
  open_call (holds x μ total) f = answers (holds x μ total) (refused 22 0)

  unfoldable pub outcome : State X → Call → Outcome X
  outcome st (open_file f) = open_call st f
  outcome st (judge r) = answers st (judge_call K.figures st r)
  outcome st (sweep n) = sweep_call K.figures st n
  outcome st (read b) = read_call K.figures st b
  outcome st (page b) = page_call K.figures st b
  outcome st (ultimate year) = answers st (ultimate_call K.figures K.latest st year)
  outcome st (strike s) = strike_call K st s
  outcome st (residues r b) = residues_call K.chain st r b
  outcome st (row f channel year) = answers st (part_shown (row_part f channel year))
  outcome st (row_told f channel year) = answers st (refused_or (row_check f channel year) row_is_shown)
  outcome st close = record { answer = closed; state = empty; buffer = [] }

  -- the outcomes of a list of calls, one after another
  unfoldable pub outcomes : State X → List Call → List (Outcome X)
  outcomes st [] = []
  outcomes st (call ∷ calls) = outcome st call ∷ outcomes (outcome st call).state calls

-- the specification's session machine
abbrev pub the_file : Keeping StruckFile
the_file = record {
  keep = unstruck;
  figures = figures_left;
  prior_means = λ f. tab_from 0 (parts (last_year f.file)) (prior_mean f.file);
  latest = λ f. latest_of f.file;
  chain = chain_left;
  struck = is_struck;
  strike_out = λ s f. record { file = f.file; struck = s ∷ f.struck };
}

abbrev pub machine : State StruckFile → Call → Outcome StruckFile
machine = outcome the_file
