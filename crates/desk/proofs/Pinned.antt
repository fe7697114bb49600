-- What C's callers can count on, in plain numbers, each drawn from the contract of a call alone.
use Rattle.std.specs.Prelude.{Err, ℕ, ◌+◌, ◌*◌, ◌≤◌, ◌<◌, ◌≡◌, ◌≢◌, ◌↔◌, true, List, ◌++◌, ℤ, pos, length, take, drop, replicate}
use Rattle.std.proofs.Math.Path.{refl, ap}
use Rattle.std.proofs.Common.{◌∙◌}
use borrow.Author.Tests.{lt-ltb, le-ltb}
use Rattle.std.proofs.Math.ListN.{get_or}
use Rattle.definitions.specs.Words.{within, part}
use Rattle.definitions.specs.Layout.{Bytes, last_year, closeness, mean_of, record_of}
use Rattle.definitions.specs.Refusals.{clear, refuses, row_check, record_check}
use Rattle.definitions.specs.Matrix.{passes, Figures, entry, own, matrix, right_hand_side}
use Rattle.definitions.specs.Strikes.{StruckFile, chain_left}
use Rattle.definitions.specs.Machine.{refused, empty, holds, row_part, write_call}
use Rattle.definitions.specs.Page.{page_of}
use Rattle.laws.proofs.Tables.{tab_at}
use Rattle.laws.proofs.Pinned.{Worth, worth, Near, rounded}
use Rattle.observations.specs.declared.Observations.{Observations}
use Rattle.holding.specs.State.{Held, state_of, held_in, session_state, HoldsFile}
use Rattle.opening.specs.Opens.{opens_to}
use Rattle.judging.specs.Judges.{judges_to}
use Rattle.sweeping.specs.Sweeps.{sweeps_to}
use Rattle.writing.specs.Writes.{Text, writes_to}
use Rattle.showing.specs.Shows.{shows_to}
use Rattle.showing.proofs.ShowLaws.{entry_at}
use Rattle.layout.specs.declared.refusals.Refusal.{Refusal as Refused}
use Rattle.layout.specs.Refusals.{number_of}
use Rattle.telling.specs.declared.Refusal.{Refusal}
use Rattle.telling.specs.declared.Judged.{Judged}
use Rattle.telling.specs.declared.Swept.{Swept}
use Rattle.telling.specs.declared.RowShown.{RowShown}
use Rattle.telling.specs.declared.System.{System}
use Rattle.telling.specs.Told.{of_reason, shown_or_told, refusal_told, judge_told, sweep_told, told_of_row, system_told}
use Rattle.desk.specs.Calls.{Opens, Judges, Sweeps, Writes, Reads, Pages, Shows, Closes, ShowsRow}
use Rattle.desk.specs.Pinned.{refusal}

-- what C gets and what is left, by the machine's outcome; a call that is refused leaves the session as it was
module _ (s t : Held) where
  module _ (o p : Observations) (file : Bytes) (r : Refusal) (call : Opens s o file r t p) where
    pub open_told : r ≡ refusal_told (opens_to (session_state o s) file).answer
    open_told = call.told

    pub open_state : session_state p t ≡ (opens_to (session_state o s) file).state
    open_state = call.state

    pub open_refused : r.number ≢ 0 → (t ≡ s) × (p ≡ o)
    open_refused = call.same

    pub open_numbered : (place : ℕ) → (opens_to (session_state o s) file).answer ≢ refused 0 place
    open_numbered = call.numbered

  module _ (n : ℕ) (r : Swept) (call : Sweeps s n r t) where
    pub sweep_told_lem : r ≡ sweep_told (sweeps_to (state_of s) n).answer
    sweep_told_lem = call.told

    pub sweep_state : state_of t ≡ (sweeps_to (state_of s) n).state
    sweep_state = call.state

    pub sweep_refused : r.refusal.number ≢ 0 → t ≡ s
    sweep_refused = call.same

    pub sweep_numbered : (place : ℕ) → (sweeps_to (state_of s) n).answer ≢ refused 0 place
    sweep_numbered = call.numbered

  pub closed : (held : List ℕ) → Closes held → (own : List ℕ) (A b μ : List ℤ) → state_of (held_in held own A b μ) ≡ empty
  closed held call = call

module _ (s : Held) (lent : Bytes) where
  module _ (r : Judged) (call : Judges s lent r) where
    pub judge_told_lem : r ≡ judge_told (judges_to (state_of s) lent)
    judge_told_lem = call.told

    pub judge_numbered : (place : ℕ) → judges_to (state_of s) lent ≢ refused 0 place
    judge_numbered = call.numbered

  module _ (size : ℕ → ℕ) (text : Text) (r : Refusal) (after : Bytes) (call : Writes size text s lent r after) where
    pub write_told : r ≡ refusal_told (writes_to size text (state_of s) lent).answer
    write_told = call.told

    pub write_buffer : after ≡ (writes_to size text (state_of s) lent).buffer
    write_buffer = call.buffer

    pub write_numbered : (place : ℕ) → (writes_to size text (state_of s) lent).answer ≢ refused 0 place
    write_numbered = call.numbered

  pub page_closed : (r : Refusal) (after : Bytes) → Pages s lent r after → state_of s ≡ empty → (r ≡ refusal 21 0) × (after ≡ lent)
  unfolding write_call
  page_closed r after call none = (call.told ∙ rw none refl, call.buffer ∙ rw none refl)

  -- of a mean that passes, and room for what is written
  module _ (F : Figures) (μ : List ℤ) (count : ℕ) (some : state_of s ≡ holds F μ count) (p : passes F (part μ) ≡ true) where
    pub read_record : (r : Refusal) (after : Bytes) → Reads s lent r after → 5 + 4 * (2 * F.last + 1) ≤ length lent
        → (r ≡ refusal 0 0) × (after ≡ record_of F.last μ ++ drop (5 + 4 * (2 * F.last + 1)) lent)
    unfolding write_call
    read_record r after call long =
        let l = le-ltb _ _ long in (call.told ∙ rw (some, p, l) refl, call.buffer ∙ rw (some, p, l) refl)

    pub page_written : (r : Refusal) (after : Bytes) → Pages s lent r after → 28 * (2 * F.last + 1) ≤ length lent
        → (r ≡ refusal 0 0) × (after ≡ page_of F.last μ F.own ++ drop (28 * (2 * F.last + 1)) lent)
    unfolding write_call
    page_written r after call long =
        let l = le-ltb _ _ long in (call.told ∙ rw (some, p, l) refl, call.buffer ∙ rw (some, p, l) refl)

    pub page_short : (r : Refusal) (after : Bytes) → Pages s lent r after → length lent < 28 * (2 * F.last + 1)
        → (r ≡ refusal 13 0) × (after ≡ lent)
    unfolding write_call
    page_short r after call short =
        let l = lt-ltb _ _ short in (call.told ∙ rw (some, p, l) refl, call.buffer ∙ rw (some, p, l) refl)

module _ (s : Held) (r : System) (call : Shows s r) where
  pub none_shown : state_of s ≡ empty
      → r ≡ record {
        refusal = refusal 21 0;
        last = 0;
        closeness = 0;
        own = replicate 31 0;
        matrix = replicate 961 (pos 0);
        right_hand = replicate 31 (pos 0);
      }
  unfolding shows_to
  none_shown none = call.told ∙ ap (λ st. system_told (shown_or_told of_reason (shows_to st))) none

  pub figures_numbered : (e : Refused) → shows_to (state_of s) ≡ Err e → number_of e.reason ≢ 0
  figures_numbered = call.numbered

  module _ (F : Figures) (μ : List ℤ) (count : ℕ) (some : state_of s ≡ holds F μ count) where
    told_of : r ≡ system_told (shown_or_told of_reason (shows_to (state_of s))) → r ≡ system_told (shown_or_told of_reason (shows_to (holds F μ count)))
    told_of told = told ∙ ap (λ st. system_told (shown_or_told of_reason (shows_to st))) some

    pub shown_numbers : (r.refusal ≡ refusal 0 0) × (r.last ≡ F.last) × (r.closeness ≡ F.closeness)
    unfolding shows_to
    shown_numbers = let e = told_of call.told in (ap (λ x. x.refusal) e, ap (λ x. x.last) e, ap (λ x. x.closeness) e)

    pub shown_own : (k : ℕ) → k < 31 → get_or r.own k 0 ≡ get_or F.own k 0
    unfolding shows_to
    shown_own k below = ap (λ x. get_or x.own k 0) (told_of call.told) ∙ tab_at 31 (λ i. get_or F.own i 0) k 0 below

    -- in both halves
    pub shown_entry : (k l : ℕ) → k < 31 → l < 31 → part r.matrix (31 * k + l) ≡ entry F k l
    unfolding shows_to
    shown_entry k l k-below l-below = ap (λ x. part x.matrix (31 * k + l)) (told_of call.told) ∙ entry_at F k l k-below l-below

    pub shown_right_hand : (k : ℕ) → k < 31 → part r.right_hand k ≡ part F.right_hand_side k
    unfolding shows_to
    shown_right_hand k below = ap (λ x. part x.right_hand k) (told_of call.told) ∙ tab_at 31 (part F.right_hand_side) k (pos 0) below

  -- of the file that is open, whatever its J
  module _ (f : StruckFile) (μ : List ℤ) (count : ℕ) (open-file : HoldsFile s f μ count) where
    pub numbers_of_file : (r.refusal.number ≡ 0) × (r.last ≡ last_year f.file) × (r.closeness ≡ closeness f.file)
    numbers_of_file = let h = call.of_file f μ count open-file in (h.0, h.1.last, h.1.close)

    pub own_of_file : (k : ℕ) → k < 2 * last_year f.file + 1 → get_or r.own k 0 ≡ own (chain_left f) k
    own_of_file = (call.of_file f μ count open-file).1.own

    pub entry_of_file : (k l : ℕ) → k < 2 * last_year f.file + 1 → l < 2 * last_year f.file + 1
        → part r.matrix (31 * k + l) ≡ matrix (chain_left f) k l
    entry_of_file = (call.of_file f μ count open-file).1.matrix

    pub right_hand_of_file : (k : ℕ) → k < 2 * last_year f.file + 1 → part r.right_hand k ≡ right_hand_side (chain_left f) k
    right_hand_of_file = (call.of_file f μ count open-file).1.right_hand

module _ (file : Bytes) (channel year : ℕ) (r : RowShown) (call : ShowsRow file channel year r) where
  pub row_told : r ≡ told_of_row (last_year file) channel year (row_check file channel year)
  row_told = call.told

  pub row_shows : take r.length (drop r.start file) ≡ row_part file channel year
  row_shows = call.shows

  pub row_inside : r.start + r.length ≤ length file
  row_inside = call.inside

  pub row_empty : (r.length ≡ 0) ↔ (r.refusal.number ≢ 0)
  row_empty = call.empty_refused

  pub row_numbered : (place : ℕ) → row_check file channel year ≢ refuses 0 place
  row_numbered = call.numbered

module _ (f : StruckFile) (s : Held) (μ : List ℤ) (count : ℕ) (open-file : HoldsFile s f μ count) where
  module _ (mean : Bytes) (r : Judged) (call : Judges s mean r) where
    pub judge_worth : {e : ℕ} → closeness f.file ≡ e → r.passed ≡ 1 → Worth f e (part (mean_of (last_year f.file) mean))
    judge_worth close passing = worth f close (call.worth f μ count open-file passing)

    pub judge_rounded : record_check (last_year f.file) mean ≡ clear → Near f (part (mean_of (last_year f.file) mean)) → r.passed ≡ 1
    judge_rounded right h = call.rounded f μ count open-file right (rounded f h)

  module _ (n : ℕ) (r : Swept) (t : Held) (call : Sweeps s n r t) (ν : List ℤ) where
    pub sweep_worth : HoldsFile t f ν r.total → {e : ℕ} → closeness f.file ≡ e → r.settled ≡ 1 → Worth f e (part ν)
    sweep_worth then close settling = worth f close (call.worth f μ ν count open-file then settling)

    pub sweep_rounded : (after : ℕ) → HoldsFile t f ν after → within 1 4096 n ≡ true → Near f (part ν) → r.settled ≡ 1
    sweep_rounded after then right h = call.rounded f μ ν count after open-file then right (rounded f h)

  -- of a record and of a page alike
  pub write_worth : (size : ℕ → ℕ) (text : Text) (buffer after : Bytes) (r : Refusal) → Writes size text s buffer r after
      → {e : ℕ} → closeness f.file ≡ e → r.number ≡ 0 → Worth f e (part μ)
  write_worth size text buffer after r call close writing = worth f close (call.worth f μ count open-file writing)
