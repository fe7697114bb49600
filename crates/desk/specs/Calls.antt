-- The contracts of what C calls, over the session before and after. What C gets is told of the machine's answer and of nothing
-- else; a call that is refused leaves the session as it was; and C's callers have both halves of demand 3.
use Rattle.std.specs.Prelude.{ℕ, ◌+◌, ◌≤◌, ◌<◌, ◌≡◌, ◌≢◌, ◌↔◌, true, List, ℤ, length, take, drop, Err}
use Rattle.definitions.specs.Words.{within, part}
use Rattle.definitions.specs.Layout.{Bytes, last_year, closeness, parts, record_length, mean_of}
use Rattle.definitions.specs.Refusals.{clear, refuses, row_check, record_check}
use Rattle.definitions.specs.Sweep.{sweep_limit}
use Rattle.definitions.specs.Page.{page_length}
use Rattle.definitions.specs.Matrix.{Figures, residue}
use Rattle.definitions.specs.Residues.{residue_at}
use Rattle.definitions.specs.Strikes.{Step, step, StruckFile, Admitted, chain_left, figures_left}
use Rattle.definitions.specs.Ultimate.{Ultimate, Divided, numerator, both_variances}
use Rattle.definitions.specs.Machine.{Answer, refused, empty, holds, row_part, record_in, page_in}
use Rattle.definitions.specs.Kept.{kept_of}
use Rattle.definitions.specs.Guarantee.{Guarantee, Rounded}
use Rattle.layout.specs.declared.refusals.Refusal.{Refusal as Refused}
use Rattle.layout.specs.Refusals.{number_of}
use Rattle.chain.specs.Arrays.{figures_at}
use Rattle.observations.specs.declared.Observations.{Observations}
use Rattle.observations.specs.Arrays.{observations_at}
use Rattle.holding.specs.State.{Held, state_of, held_in, session_state, HoldsFile}
use Rattle.opening.specs.Opens.{opens_to}
use Rattle.judging.specs.Judges.{judges_to}
use Rattle.sweeping.specs.Sweeps.{sweeps_to}
use Rattle.writing.specs.Writes.{Text, writes_to}
use Rattle.showing.specs.Shows.{shows_to, FiguresOf}
use Rattle.projecting.specs.Projects.{latest_with, projects_to}
use Rattle.striking.specs.Strikes.{strikes_to}
use Rattle.weighing.specs.Weighs.{weighs_to}
use Rattle.telling.specs.declared.Refusal.{Refusal}
use Rattle.telling.specs.declared.Judged.{Judged}
use Rattle.telling.specs.declared.Swept.{Swept}
use Rattle.telling.specs.declared.RowShown.{RowShown}
use Rattle.telling.specs.declared.System.{System}
use Rattle.telling.specs.declared.Projected.{Projected}
use Rattle.telling.specs.Told.{of_reason, shown_or_told, refusal_told, judge_told, sweep_told, told_of_row, system_told, ultimate_told}

-- no refusal has the number 0, so that 0 says that there is none
abbrev pub Numbered : Answer → Type 0
Numbered a = (place : ℕ) → a ≢ refused 0 place

pub record Opens (s : Held) (o : Observations) (file : Bytes) (r : Refusal) (t : Held) (p : Observations) : Type 0 where
  pub told : r ≡ refusal_told (opens_to (session_state o s) file).answer
  pub numbered : Numbered (opens_to (session_state o s) file).answer
  pub state : session_state p t ≡ (opens_to (session_state o s) file).state
  pub same : r.number ≢ 0 → (t ≡ s) × (p ≡ o)

pub record Strikes (d : Step) (s : Held) (o : Observations) (r : Refusal) (t : Held) (p : Observations) : Type 0 where
  pub told : r ≡ refusal_told (strikes_to (session_state o s) d).answer
  pub numbered : Numbered (strikes_to (session_state o s) d).answer
  pub state : session_state p t ≡ (strikes_to (session_state o s) d).state
  pub same : r.number ≢ 0 → (t ≡ s) × (p ≡ o)

-- of lent arrays, whatever variances the session keeps beside them
abbrev pub StrikesLent : ℕ → ℕ → ℕ → Held → List ℤ → List ℕ → List ℕ → Refusal → Held → List ℤ → List ℕ → List ℕ → Type 0
StrikesLent channel i j s ticks weights struck r t ticks' weights' struck' =
    (variances : List ℕ) → Strikes (step channel i j) s (observations_at ticks weights variances struck) r
    t (observations_at ticks' weights' variances struck')

pub record Judges (s : Held) (meanRecord : Bytes) (r : Judged) : Type 0 where
  pub told : r ≡ judge_told (judges_to (state_of s) meanRecord)
  pub numbered : Numbered (judges_to (state_of s) meanRecord)
  pub worth : (f : StruckFile) (μ : List ℤ) (total : ℕ) → HoldsFile s f μ total
      → r.passed ≡ 1 → Guarantee (chain_left f) (closeness f.file) (part (mean_of (last_year f.file) meanRecord))
  pub rounded : (f : StruckFile) (μ : List ℤ) (total : ℕ) → HoldsFile s f μ total
      → record_check (last_year f.file) meanRecord ≡ clear
      → Rounded (chain_left f) (closeness f.file) (part (mean_of (last_year f.file) meanRecord)) → r.passed ≡ 1

pub record Sweeps (s : Held) (n : ℕ) (r : Swept) (t : Held) : Type 0 where
  pub told : r ≡ sweep_told (sweeps_to (state_of s) n).answer
  pub numbered : Numbered (sweeps_to (state_of s) n).answer
  pub state : state_of t ≡ (sweeps_to (state_of s) n).state
  pub same : r.refusal.number ≢ 0 → t ≡ s
  pub worth : (f : StruckFile) (μ ν : List ℤ) (total : ℕ) → HoldsFile s f μ total → HoldsFile t f ν r.total
      → r.settled ≡ 1 → Guarantee (chain_left f) (closeness f.file) (part ν)
  pub rounded : (f : StruckFile) (μ ν : List ℤ) (total after : ℕ) → HoldsFile s f μ total → HoldsFile t f ν after
      → within 1 sweep_limit n ≡ true → Rounded (chain_left f) (closeness f.file) (part ν) → r.settled ≡ 1

pub record Writes (size : ℕ → ℕ) (text : Text) (s : Held) (before : Bytes) (r : Refusal) (after : Bytes) : Type 0 where
  pub told : r ≡ refusal_told (writes_to size text (state_of s) before).answer
  pub numbered : Numbered (writes_to size text (state_of s) before).answer
  pub buffer : after ≡ (writes_to size text (state_of s) before).buffer
  pub worth : (f : StruckFile) (μ : List ℤ) (total : ℕ) → HoldsFile s f μ total → r.number ≡ 0
      → Guarantee (chain_left f) (closeness f.file) (part μ)

abbrev pub Reads : Held → Bytes → Refusal → Bytes → Type 0
Reads = Writes record_length record_in

abbrev pub Pages : Held → Bytes → Refusal → Bytes → Type 0
Pages = Writes page_length page_in

abbrev pub figure_of : Projected → Ultimate
figure_of r = record { floor = r.floor; remainder = r.remainder; divisor = r.divisor }

pub record Projects (o : Observations) (s : Held) (year : ℕ) (r : Projected) : Type 0 where
  pub told : r ≡ ultimate_told (projects_to o (state_of s) year)
  pub numbered : Numbered (projects_to o (state_of s) year)
  pub exact : (F : Figures) (μ : List ℤ) (total : ℕ) → state_of s ≡ holds F μ total → r.refusal.number ≡ 0
      → Divided (numerator F.last (latest_with o F) year (part μ)) (figure_of r)
      × (r.divisor ≡ both_variances F.last (latest_with o F) year)
  pub worth : (f : StruckFile) (μ : List ℤ) (total : ℕ) → HoldsFile s f μ total → r.refusal.number ≡ 0
      → Guarantee (chain_left f) (closeness f.file) (part μ)

-- of lent arrays, whatever weights and marks the session keeps beside them
abbrev pub ProjectsLent : List ℤ → List ℕ → Held → ℕ → Projected → Type 0
ProjectsLent ticks variances s year r = (weights struck : List ℕ) → Projects (observations_at ticks weights variances struck) s year r

pub record Weighs (o : Observations) (s : Held) (meanRecord before : Bytes) (r : Refusal) (after : Bytes) : Type 0 where
  pub told : r ≡ refusal_told (weighs_to (session_state o s) meanRecord before).answer
  pub numbered : Numbered (weighs_to (session_state o s) meanRecord before).answer
  pub buffer : after ≡ (weighs_to (session_state o s) meanRecord before).buffer
  pub of_file : (f : StruckFile) (μ : List ℤ) (total : ℕ) → Admitted f → session_state o s ≡ holds (kept_of f) μ total → r.number ≡ 0
      → (k : ℕ) → k < parts (last_year f.file)
      → residue_at after k ≡ residue (figures_left f) (part (mean_of (last_year f.file) meanRecord)) k

-- of lent arrays, whatever variances the session keeps beside them
abbrev pub WeighsLent : List ℤ → List ℕ → List ℕ → Held → Bytes → Bytes → Refusal → Bytes → Type 0
WeighsLent ticks weights struck s meanRecord before r after =
    (variances : List ℕ) → Weighs (observations_at ticks weights variances struck) s meanRecord before r after

pub record Shows (s : Held) (r : System) : Type 0 where
  pub told : r ≡ system_told (shown_or_told of_reason (shows_to (state_of s)))
  pub numbered : (e : Refused) → shows_to (state_of s) ≡ Err e → number_of e.reason ≢ 0
  pub of_file : (f : StruckFile) (μ : List ℤ) (total : ℕ) → HoldsFile s f μ total
      → (r.refusal.number ≡ 0) × FiguresOf f (figures_at r.last r.closeness r.own r.matrix r.right_hand)

-- nothing is open, whatever the other arrays hold
abbrev pub Closes : List ℕ → Type 0
Closes held = (own : List ℕ) (A b μ : List ℤ) → state_of (held_in held own A b μ) ≡ empty

pub record ShowsRow (file : Bytes) (channel year : ℕ) (r : RowShown) : Type 0 where
  pub told : r ≡ told_of_row (last_year file) channel year (row_check file channel year)
  pub numbered : (place : ℕ) → row_check file channel year ≢ refuses 0 place
  pub shows : take r.length (drop r.start file) ≡ row_part file channel year
  pub inside : r.start + r.length ≤ length file
  -- empty exactly where it is refused
  pub empty_refused : (r.length ≡ 0) ↔ (r.refusal.number ≢ 0)
