-- Demand 3 once more, in plain numbers and with nothing named: drawn from the general statements, so that none of them can be
-- weakened and still give these. Pinned are: a residue of just e·D passes; the slack is e² and not e times the sum of own weights;
-- u is over any m ≥ 1; another vector may differ in one part alone; rounding is promised from a closeness of 256 on, up to −2^26
-- and 2^26, and for just half a tick. And the machine's outcome of a call is what the contract of that call speaks of, with a number of
-- the table where it is refused. Last, a law that is claimed and that nothing builds on.
use Rattle.std.specs.Prelude.{ℕ, ◌+◌, ◌*◌, ◌-◌, ◌≤◌, ◌<◌, ◌≡◌, refl, ◌≢◌, ◌⊎◌, ◌↔◌, Bool, true, false, ◌||◌, List, [], map, T, ℤ, pos, nat_abs, ◌+ℤ◌, ◌-ℤ◌}
use Rattle.std.specs.Prelude.{◌*ℤ◌, ◌≤ℤ◌, ◌<ℤ◌}
use Rattle.std.proofs.Common.{sym, ap, subst, ◌∙◌, inl, inr, le_of_eq}
use Rattle.integers.specs.Sum.{sum, total}
use Rattle.definitions.specs.Words.{within}
use Rattle.definitions.specs.Layout.{Bytes, last_year, closeness, record_length}
use Rattle.definitions.specs.Page.{page_length}
use Rattle.definitions.specs.Loss.{Vector, weighted, ratio, loss, loss_times}
use Rattle.definitions.specs.Observations.{Chain}
use Rattle.definitions.specs.Refusals.{clear, row_check}
use Rattle.definitions.specs.Matrix.{own, residue_times, passes}
use Rattle.definitions.specs.Strikes.{Step, StruckFile, Admitted, chain_left, figures_left}
use Rattle.definitions.specs.Machine.{Call, open_file, judge, sweep, read, page, ultimate, strike, residues, row, row_told, close}
use Rattle.definitions.specs.Machine.{State, empty, map_state, Keeping, outcomes}
use Rattle.definitions.specs.Machine.{closed, refused, part_shown, row_is_shown, refused_or, row_part}
use Rattle.definitions.specs.Machine.{record_in, page_in, open_call, judge_call, sweep_call, read_call, page_call, ultimate_call, strike_call, residues_call}
use Rattle.definitions.specs.Machine.{outcome, the_file}
use Rattle.definitions.specs.Kept.{kept_of, in_session}
use Rattle.definitions.specs.Guarantee.{Guarantee, Rounded}
use Rattle.laws.specs.Accepted.{Within}
use Rattle.laws.proofs.Accepted.{within_yes}
use Rattle.laws.proofs.Demand3.{demand3}
use Rattle.laws.proofs.Judged.{passes_of_small}
use Rattle.laws.specs.MachineLaws.{map_outcome}
use Rattle.laws.proofs.MachineLaws.{write_alone, residues_alone, outcomes_alike, session_alike}
use Rattle.laws.specs.Numbers.{NumberedAnswer}
use Rattle.laws.proofs.Numbers as N
use Rattle.laws.proofs.Rows.{empty_is_refused}
use Rattle.laws.proofs.Theorem34.{loss_expands}

module _ (f : StruckFile) where
  -- of each part
  abbrev pub Each : (ℕ → Type 0) → Type 0
  Each P = (k : ℕ) → k < 2 * last_year f.file + 1 → P k

  abbrev D : ℕ → ℕ
  D = own (chain_left f)

  abbrev residue_of : ℕ → Vector → ℕ → ℤ
  residue_of = residue_times (chain_left f)

  -- e² times the sum of own weights, times m²
  abbrev slack_of : ℕ → ℕ → ℤ
  slack_of e m = pos (m * m * (e * e * total (2 * last_year f.file + 1) D))

  -- what a mean that passes is worth, with closeness e
  pub record Worth (e : ℕ) (μ : Vector) : Type 0 where
    pub nearly_least : (m : ℕ) (u : Vector) → 1 ≤ m
        → (pos (m * m) *ℤ loss (chain_left f) μ) ≤ℤ (loss_times (chain_left f) m u +ℤ slack_of e m)
    pub near : (m : ℕ) (u : Vector) → 1 ≤ m → Each (λ k. residue_of m u k ≡ pos 0)
        → sum (2 * last_year f.file + 1) (λ k. pos (D k) *ℤ ((u k -ℤ pos m *ℤ μ k) *ℤ (u k -ℤ pos m *ℤ μ k))) ≤ℤ slack_of e m
    -- u/m differs in part p, and perhaps in no other
    pub strictly_least : Each (λ k. residue_of 1 μ k ≡ pos 0)
        → (m : ℕ) (u : Vector) → 1 ≤ m → (p : ℕ) → p < 2 * last_year f.file + 1 → u p ≢ pos m *ℤ μ p
        → (pos (m * m) *ℤ loss (chain_left f) μ) <ℤ loss_times (chain_left f) m u

  pub worth : {e : ℕ} → closeness f.file ≡ e → {μ : Vector} → Guarantee (chain_left f) (closeness f.file) μ → Worth e μ
  worth e-is g = record {
    nearly_least = λ m u some. rw e-is at (g.nearly_least m u some);
    near = λ m u some none. rw e-is at (g.near m u some none);
    strictly_least = λ none m u some p below other. g.strictly_least none m u some (p, below, other);
  }

  -- what is known of a mean that was rounded
  pub record Near (μ : Vector) : Type 0 where
    pub room : 256 ≤ closeness f.file
    pub limits : Each (λ k. nat_abs (μ k) ≤ 67108864)
    pub m : ℕ
    pub u : Vector
    pub some : 1 ≤ m
    pub exact : Each (λ k. residue_of m u k ≡ pos 0)
    pub half : Each (λ k. 2 * nat_abs (u k -ℤ pos m *ℤ μ k) ≤ m)

  pub rounded : {μ : Vector} → Near μ → Rounded (chain_left f) (closeness f.file) μ
  rounded h = record {
    room = h.room;
    inside = h.limits;
    m = h.m;
    u = h.u;
    some = h.some;
    exact = h.exact;
    half = h.half;
  }

  -- ---- of an accepted file with a step left in each column

  module _ (h : Admitted f) (μ : Vector) where
    -- each residue as large as the test lets it be
    pub at_the_bound : (e : ℕ) → closeness f.file ≡ e → Each (λ k. nat_abs (residue_of 1 μ k) ≡ e * D k) → Worth e μ
    at_the_bound e e-is at_bound =
        worth e-is (demand3.guarantee f h μ (passes_of_small (chain_left f) (closeness f.file) μ (λ k below.
        le_of_eq (at_bound k below ∙ ap (λ e. e * D k) (sym e-is)))))

    pub near_passes : Near μ → passes (figures_left f) μ ≡ true
    near_passes near = demand3.rounding f h μ (rounded near)

-- ---- the machine, call by call, whatever is kept of a file

module _ (X : Type 0) (K : Keeping X) (st : State X) where
  pub record Machine : Type 0 where
    pub opens : (f : Bytes) → outcome K st (open_file f) ≡ open_call K st f
    pub judges : (r : Bytes) → (outcome K st (judge r)).answer ≡ judge_call K.figures st r
    pub judges_alone : (r : Bytes) → (outcome K st (judge r)).state ≡ st
    pub sweeps : (n : ℕ) → outcome K st (sweep n) ≡ sweep_call K.figures st n
    pub reads : (b : Bytes) → outcome K st (read b) ≡ read_call K.figures st b
    pub reads_alone : (b : Bytes) → (outcome K st (read b)).state ≡ st
    pub pages : (b : Bytes) → outcome K st (page b) ≡ page_call K.figures st b
    pub pages_alone : (b : Bytes) → (outcome K st (page b)).state ≡ st
    pub ultimates : (year : ℕ)
        → outcome K st (ultimate year) ≡ record { answer = ultimate_call K.figures K.latest st year; state = st; buffer = [] }
    pub strikes : (s : Step) → outcome K st (strike s) ≡ strike_call K st s
    pub residues_by : (r b : Bytes) → outcome K st (residues r b) ≡ residues_call K.chain st r b
    pub residues_state : (r b : Bytes) → (outcome K st (residues r b)).state ≡ st
    pub shows : (f : Bytes) (channel year : ℕ)
        → outcome K st (row f channel year) ≡ record { answer = part_shown (row_part f channel year); state = st; buffer = [] }
    pub tells : (f : Bytes) (channel year : ℕ)
        → outcome K st (row_told f channel year)
        ≡ record { answer = refused_or (row_check f channel year) row_is_shown; state = st; buffer = [] }
    pub closes : outcome K st close ≡ record { answer = closed; state = empty; buffer = [] }

  pub machine : Machine
  unfolding outcome
  machine = record {
    opens = λ f. refl;
    judges = λ r. refl;
    judges_alone = λ r. refl;
    sweeps = λ n. refl;
    reads = λ b. refl;
    reads_alone = write_alone K.figures record_length record_in st;
    pages = λ b. refl;
    pages_alone = write_alone K.figures page_length page_in st;
    ultimates = λ year. refl;
    strikes = λ s. refl;
    residues_by = λ r b. refl;
    residues_state = residues_alone K.chain st;
    shows = λ f channel year. refl;
    tells = λ f channel year. refl;
    closes = refl;
  }

-- ---- the number of a refusal is one of the specification's table, whatever is called and whatever is kept of a file

call_numbered : (X : Type 0) (K : Keeping X) (st : State X) (call : Call)
    → NumberedAnswer (outcome K st call).answer
unfolding outcome
call_numbered X K st (open_file f) = N.open_numbered K st f
call_numbered X K st (judge r) = N.judge_numbered K.figures st r
call_numbered X K st (sweep n) = N.sweep_numbered K.figures st n
call_numbered X K st (read b) = N.write_numbered K.figures record_length record_in st b
call_numbered X K st (page b) = N.write_numbered K.figures page_length page_in st b
call_numbered X K st (ultimate year) = N.ultimate_numbered K.figures K.latest st year
call_numbered X K st (strike s) = N.strike_numbered K st s
call_numbered X K st (residues r b) = N.residues_numbered K.chain st r b
call_numbered X K st (row f channel year) = tt
call_numbered X K st (row_told f channel year) =
    N.refused_or_lem (row_check f channel year) row_is_shown (N.row_numbered f channel year) tt
call_numbered X K st close = tt

pub in_table : (X : Type 0) (K : Keeping X) (st : State X) (call : Call) (number place : ℕ)
    → (outcome K st call).answer ≡ refused number place → ((1 ≤ number) × (number ≤ 15)) ⊎ ((21 ≤ number) × (number ≤ 27))
in_table X K st call number place e =
    by_first (within 1 15 number) (within_yes 1 15 number) (subst NumberedAnswer e (call_numbered X K st call))
  where
    by_first : (t : Bool) → (T t → Within 1 15 number) → T (t || within 21 27 number)
        → ((1 ≤ number) × (number ≤ 15)) ⊎ ((21 ≤ number) × (number ≤ 27))
    by_first true first listed = let w = first tt in inl (w.from, w.to)
    by_first false first listed = let w = within_yes 21 27 number listed in inr (w.from, w.to)

-- ---- over lists of calls what a session keeps answers as the file does, and an empty row is a refused one

pub same_outcomes : (calls : List Call) (st : State StruckFile)
    → outcomes in_session (map_state kept_of st) calls ≡ map (map_outcome kept_of) (outcomes the_file st calls)
same_outcomes = outcomes_alike the_file in_session kept_of session_alike

pub row_empty : (f : Bytes) (channel year : ℕ) → (row_part f channel year ≡ []) ↔ (row_check f channel year ≢ clear)
row_empty = empty_is_refused

-- ---- another law that nothing builds on

pub loss_around : (c : Chain) (m : ℕ) (u μ : Vector) → let w : Vector = λ k. u k -ℤ pos m *ℤ μ k in loss_times c m u
    ≡ pos m *ℤ pos m *ℤ loss c μ +ℤ pos 2 *ℤ pos m *ℤ sum (2 * c.last + 1) (λ k. residue_times c 1 μ k *ℤ w k)
    +ℤ (sum (2 * c.last + 1) (λ k. weighted (own c k) (w k)) +ℤ sum c.last (λ d. weighted (c.g d) (ratio c w (c.last - d))))
loss_around = loss_expands
