-- The session machine of the specification answers alike on what a session keeps of a file.
use Prim.Native.Nat.{ℕ, ◌+◌, ◌*◌, ◌-◌, ◌<◌}
use Rattle.std.specs.Prelude.{◌≡◌, Bool, not, leb, ltb, ℤ, pos, length}
use Rattle.std.proofs.Math.Path.{refl, sym, ap, ap₂}
use Rattle.std.proofs.Common.{◌∙◌, arith}
use Rattle.std.proofs.Math.Bool.{true, false, cond}
use mathlib.Core.List.{List, [], ◌∷◌, map}
use Rattle.definitions.specs.Words.{within, part}
use Rattle.definitions.specs.Layout.{Bytes, last_year, parts, psi_index, cells, row_start, variance_of, amount, record_length, mean_of}
use Rattle.definitions.specs.Page.{page_length}
use Rattle.definitions.specs.Refusals.{Check, clear, refuses, unless, ◌then◌, file_check, record_check}
use Rattle.definitions.specs.Observations.{Chain, log_of}
use Rattle.definitions.specs.Matrix.{Figures, figures_from, passes}
use Rattle.definitions.specs.Residues.{residues_length}
use Rattle.definitions.specs.Strikes.{Step, strike_check, is_struck}
use Rattle.definitions.specs.Sweep.{sweep_limit}
use Rattle.definitions.specs.Ultimate.{Latest, latest_of, ultimate_of}
use Rattle.definitions.specs.Machine.{Call, open_file, judge, sweep, read, page, ultimate, strike, residues, row, row_told, close}
use Rattle.definitions.specs.Machine.{refused, ultimate_is, State, empty, holds, map_state, Keeping, Outcome, answers, open_unless, strike_unless, the_file}
use Rattle.definitions.specs.Machine.{open_call, judge_call, sweep_call, write_call, record_in, page_in, ultimate_call, strike_call, writes_unless}
use Rattle.definitions.specs.Machine.{residues_call}
use Rattle.definitions.specs.Machine.{outcome, outcomes}
use Rattle.definitions.specs.Kept.{observed_of, kept_of, latest_in, in_session}
use Rattle.laws.proofs.Accepted.{within_yes}
use Rattle.laws.proofs.Cells.{cell_below}
use Rattle.laws.proofs.Marks.{marked_x, marked_z, chain_kept_lem, struck_alike}
use Rattle.laws.proofs.ObservedResidues.{same_residues}
use Rattle.laws.specs.SameChains.{SameChain}
use Rattle.laws.proofs.StruckSteps.{check_cong}
use Rattle.laws.proofs.Tables.{tab_at}
use Rattle.laws.specs.Ultimates.{SameLatest}
use Rattle.laws.proofs.Ultimates.{ultimate_cong}
use Rattle.laws.specs.MachineLaws.{Alike, map_outcome}

-- ---- what is kept, in another form

module _ {X Y : Type 0} (φ : X → Y) where
  map_cond : (t : Bool) (a b : Outcome X) → map_outcome φ (cond t a b) ≡ cond t (map_outcome φ a) (map_outcome φ b)
  map_cond true a b = refl
  map_cond false a b = refl

  map_cond₂ : (s t : Bool) (a b c : Outcome X)
      → map_outcome φ (cond s a (cond t b c)) ≡ cond s (map_outcome φ a) (cond t (map_outcome φ b) (map_outcome φ c))
  map_cond₂ s t a b c = map_cond s a (cond t b c) ∙ ap (cond s (map_outcome φ a)) (map_cond t b c)

  map_cond₃ : (r s t : Bool) (a b c d : Outcome X)
      → map_outcome φ (cond r a (cond s b (cond t c d)))
      ≡ cond r (map_outcome φ a) (cond s (map_outcome φ b) (cond t (map_outcome φ c) (map_outcome φ d)))
  map_cond₃ r s t a b c d = map_cond r a (cond s b (cond t c d)) ∙ ap (cond r (map_outcome φ a)) (map_cond₂ s t b c d)

-- judge, sweep, read and page, which use the figures alone, where the figures are the same in both forms
module _ {X Y : Type 0} (φ : X → Y) (F : X → Figures) (G : Y → Figures) (same : (x : X) → G (φ x) ≡ F x) where
  pub judge_alike : (st : State X) (r : Bytes) → judge_call G (map_state φ st) r ≡ judge_call F st r
  unfolding judge_call
  judge_alike empty r = refl
  judge_alike (holds x μ total) r = rw (same x) refl

  pub sweep_alike : (st : State X) (n : ℕ) → sweep_call G (map_state φ st) n ≡ map_outcome φ (sweep_call F st n)
  unfolding sweep_call
  sweep_alike empty n = refl
  sweep_alike (holds x μ total) n =
      rw (same x) (sym (map_cond₃ φ (not (within 1 sweep_limit n)) (passes (F x) (part μ)) (leb sweep_limit total) _ _ _ _))

  pub write_alike : (size : ℕ → ℕ) (text : Figures → List ℤ → Bytes) (st : State X) (b : Bytes)
      → write_call G size text (map_state φ st) b ≡ map_outcome φ (write_call F size text st b)
  unfolding write_call
  write_alike size text empty b = refl
  write_alike size text (holds x μ total) b =
      rw (same x) (sym (map_cond₂ φ (not (passes (F x) (part μ))) (ltb (length b) (size (F x).last)) _ _ _))

-- ultimate, where the latest amounts and the variances are the same besides
module _ {X Y : Type 0} (φ : X → Y) (F : X → Figures) (G : Y → Figures) (a : X → Latest) (b : Y → Latest)
    (same : (x : X) → G (φ x) ≡ F x) (latest : (x : X) → SameLatest (F x).last (b (φ x)) (a x)) where
  pub ultimate_alike : (st : State X) (year : ℕ) → ultimate_call G b (map_state φ st) year ≡ ultimate_call F a st year
  unfolding ultimate_call
  ultimate_alike empty year = refl
  ultimate_alike (holds x μ total) year = rw (same x) (by_year_lem (within 1 (F x).last year) refl)
    where
      by_year_lem : (t : Bool) → within 1 (F x).last year ≡ t
          → cond (not (passes (F x) (part μ))) (refused 24 0)
          (cond (not t) (refused 25 0) (ultimate_is (ultimate_of (F x).last (b (φ x)) year (part μ))))
          ≡ cond (not (passes (F x) (part μ))) (refused 24 0)
          (cond (not t) (refused 25 0) (ultimate_is (ultimate_of (F x).last (a x) year (part μ))))
      by_year_lem false e = refl
      by_year_lem true e =
          let there = within_yes 1 (F x).last year (rw e tt) in
          ap (λ r. cond (not (passes (F x) (part μ))) (refused 24 0) (ultimate_is r))
          (ultimate_cong (latest x) there.to (λ k below. refl))

-- residues, where the observations that are left are the same
module _ {X Y : Type 0} (φ : X → Y) (c : X → Chain) (d : Y → Chain) (years : (x : X) → (d (φ x)).last ≡ (c x).last)
    (same : (x : X) → SameChain (c x) (d (φ x))) where
  writes_unless_lem : (k : Check) (st : State X) (text b : Bytes)
      → writes_unless k (map_state φ st) text b ≡ map_outcome φ (writes_unless k st text b)
  writes_unless_lem clear st text b = refl
  writes_unless_lem (refuses number place) st text b = refl

  pub residues_alike : (st : State X) (r b : Bytes) → residues_call d (map_state φ st) r b ≡ map_outcome φ (residues_call c st r b)
  unfolding residues_call
  residues_alike empty r b = refl
  residues_alike (holds x μ total) r b =
      let J : ℕ = (c x).last in
      let text = same_residues (c x) (d (φ x)) (same x) (part (mean_of J r)) in
      rw (years x, sym text)
      (writes_unless_lem (record_check J r then unless (leb (residues_length J) (length b)) 13 0) (holds x μ total) _ b)

-- a call that writes leaves the state as it was
pub write_alone : {X : Type 0} (figures : X → Figures) (size : ℕ → ℕ) (text : Figures → List ℤ → Bytes) (st : State X) (b : Bytes)
    → (write_call figures size text st b).state ≡ st
unfolding write_call
write_alone figures size text empty b = refl
write_alone {X} figures size text (holds x μ total) b =
    same (not (passes (figures x) (part μ))) _ _ refl (same (ltb (length b) (size (figures x).last)) _ _ refl refl)
  where
    same : (t : Bool) (a b : Outcome X) → a.state ≡ holds x μ total → b.state ≡ holds x μ total → (cond t a b).state ≡ holds x μ total
    same true a b first second = first
    same false a b first second = second

-- so does residues
pub residues_alone : {X : Type 0} (chain : X → Chain) (st : State X) (r b : Bytes) → (residues_call chain st r b).state ≡ st
unfolding residues_call
residues_alone chain empty r b = refl
residues_alone {X} chain (holds x μ total) r b =
    by_check (record_check (chain x).last r then unless (leb (residues_length (chain x).last) (length b)) 13 0) _
  where
    by_check : (k : Check) (text : Bytes) → (writes_unless k (holds x μ total) text b).state ≡ holds x μ total
    by_check clear text = refl
    by_check (refuses number place) text = refl

-- ---- one way of keeping a file in the place of another

module _ {X Y : Type 0} (K : Keeping X) (L : Keeping Y) (φ : X → Y) (h : Alike K L φ) where
  strike_unless_lem : (c : Check) (s : Step) (x : X) (μ : List ℤ) (total : ℕ)
      → strike_unless L c s (φ x) μ total ≡ map_outcome φ (strike_unless K c s x μ total)
  strike_unless_lem clear s x μ total = rw (sym (h.strikes x s), h.prior_means x) refl
  strike_unless_lem (refuses number place) s x μ total = refl

  strike_alike : (st : State X) (s : Step) → strike_call L (map_state φ st) s ≡ map_outcome φ (strike_call K st s)
  unfolding strike_call
  strike_alike empty s = refl
  strike_alike (holds x μ total) s =
      rw (h.figures x, check_cong (K.figures x).last (L.struck (φ x)) (K.struck x) (h.struck_x x) (h.struck_z x) s)
      (strike_unless_lem (strike_check (K.figures x).last (K.struck x) s) s x μ total)

  open_alike : (c : Check) (f : Bytes) → open_unless L c f ≡ map_outcome φ (open_unless K c f)
  open_alike clear f = rw (sym (h.keeps f), h.prior_means (K.keep f)) refl
  open_alike (refuses number place) f = refl

  pub outcome_alike : (st : State X) (call : Call) → outcome L (map_state φ st) call ≡ map_outcome φ (outcome K st call)
  unfolding outcome open_call
  outcome_alike empty (open_file f) = open_alike (file_check f) f
  outcome_alike (holds x μ total) (open_file f) = refl
  outcome_alike st (judge r) = ap (answers (map_state φ st)) (judge_alike φ K.figures L.figures h.figures st r)
  outcome_alike st (sweep n) = sweep_alike φ K.figures L.figures h.figures st n
  outcome_alike st (read b) = write_alike φ K.figures L.figures h.figures record_length record_in st b
  outcome_alike st (page b) = write_alike φ K.figures L.figures h.figures page_length page_in st b
  outcome_alike st (ultimate year) =
      ap (answers (map_state φ st)) (ultimate_alike φ K.figures L.figures K.latest L.latest h.figures h.latest st year)
  outcome_alike st (strike s) = strike_alike st s
  outcome_alike st (residues r b) = residues_alike φ K.chain L.chain h.years h.chain st r b
  outcome_alike st (row f channel year) = refl
  outcome_alike st (row_told f channel year) = refl
  outcome_alike st close = refl

  pub outcomes_alike : (calls : List Call) (st : State X) → outcomes L (map_state φ st) calls ≡ map (map_outcome φ) (outcomes K st calls)
  unfolding outcomes
  outcomes_alike [] st = refl
  outcomes_alike (call ∷ calls) st =
      let same = outcome_alike st call in
      ap₂ ◌∷◌ same (ap (λ o. outcomes L o.state calls) same ∙ outcomes_alike calls (outcome K st call).state)

latest_kept : (f : Bytes) → SameLatest (last_year f) (latest_in (last_year f) (observed_of f)) (latest_of f)
latest_kept f = record {
  log_paid = λ i there. logarithm_at (row_start J i + (J - i)) (omega (arith, cell_below J i (J - i) (omega arith)));
  log_incurred = λ i there. logarithm_at (cells J + (row_start J i + (J - i))) (omega (arith, cell_below J i (J - i) (omega arith)));
  variance_Φ = λ m there. tab_at (parts J) (variance_of f) m 0 (omega arith);
  variance_Ψ = λ n there. tab_at (parts J) (variance_of f) (psi_index J n) 0 (omega arith);
}
  where
    J : ℕ
    J = last_year f

    logarithm_at : (c : ℕ) → c < 2 * cells J → part (observed_of f).logarithms c ≡ log_of (amount f c)
    logarithm_at c below = tab_at (2 * cells J) (λ c. log_of (amount f c)) c (pos 0) below

-- what a session keeps, in the place of the file
pub session_alike : Alike the_file in_session kept_of
unfolding figures_from
session_alike = record {
  keeps = λ f. refl;
  figures = λ f. refl;
  prior_means = λ f. refl;
  latest = λ f. latest_kept f.file;
  years = λ f. refl;
  chain = chain_kept_lem;
  struck_x = λ f. marked_x (last_year f.file) (is_struck f);
  struck_z = λ f. marked_z (last_year f.file) (is_struck f);
  strikes = struck_alike;
}
