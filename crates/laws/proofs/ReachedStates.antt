-- Every state that a list of calls reaches from the empty one is empty, or an accepted file with a step left in each column, a mean inside
-- the limits and a total of at most 4,096.
use Rattle.std.specs.Prelude.{ℕ, zero, suc, ◌≤◌, ◌<◌, ◌≡◌, refl, Bool, true, false, not, cond, ◌||◌, List, [], ◌∷◌, T, leb, ltb, ℤ, pos, nat_abs, length}
use Rattle.std.proofs.Common.{zero-le, sym, ap, subst, arith}
use Rattle.std.proofs.Math.Decide.{dec_lt}
use Rattle.std.proofs.Math.Dec.{nleb→lt}
use Rattle.std.proofs.Math.ListN.{get_or-eq_default}
use Rattle.definitions.specs.Words.{within, tab_from, part}
use Rattle.definitions.specs.Layout.{Bytes, last_year, closeness, parts, prior_mean, record_length}
use Rattle.definitions.specs.Page.{page_length}
use Rattle.definitions.specs.Refusals.{Check, clear, refuses, file_check, part_limit, is_clear, accepted}
use Rattle.definitions.specs.Matrix.{Figures, figures_from, passes}
use Rattle.definitions.specs.Strikes.{Step, strike_check, StruckFile, is_struck, Admitted, chain_left, figures_left}
use Rattle.definitions.specs.Sweep.{sweeps, sweep_limit, one_sweep}
use Rattle.definitions.specs.Machine.{Call, open_file, judge, sweep, read, page, ultimate, strike, residues, row, row_told, close}
use Rattle.definitions.specs.Machine.{State, empty, holds, Outcome, open_unless, strike_unless, the_file}
use Rattle.definitions.specs.Machine.{open_call, sweep_call, write_call, record_in, page_in, strike_call, outcome, machine}
use Rattle.laws.specs.Accepted.{AcceptedFile}
use Rattle.laws.proofs.Accepted.{accepted_file}
use Rattle.laws.proofs.MachineLaws.{residues_alone}
use Rattle.laws.proofs.StruckSteps.{strike_leaves, strikable}
use Rattle.laws.proofs.StruckFiles.{struck_chain, admitted}
use Rattle.laws.proofs.Tables.{tab_at, tab_from_length}
use Rattle.laws.proofs.SweepLaws.{MeanOf, sweeps_came}
use Rattle.laws.specs.ReachedStates.{after}

abbrev pub Good : State StruckFile → Type 0
Good empty = Unit {0}
Good (holds f μ total) = Admitted f × MeanOf (last_year f.file) μ × (total ≤ sweep_limit)

pub priors_mean : (f : Bytes) → AcceptedFile f → MeanOf (last_year f) (tab_from 0 (parts (last_year f)) (prior_mean f))
priors_mean f h = record { whole = tab_from_length 0 n (prior_mean f); inside = λ l. by_index (dec_lt l n) }
  where
    n : ℕ
    n = parts (last_year f)

    priors : List ℤ
    priors = tab_from 0 n (prior_mean f)

    behind : {l : ℕ} → ¬ (l < n) → length priors ≤ l
    behind no_part = rw (tab_from_length 0 n (prior_mean f)) (omega arith)

    by_index : {l : ℕ} → Dec (l < n) → nat_abs (part priors l) ≤ part_limit
    by_index {l} (yes below) = rw (tab_at n (prior_mean f) l (pos 0) below) (h.prior_means_lem l below)
    by_index {l} (no above) = rw (get_or-eq_default priors (pos 0) {n = l} (behind above)) zero-le

-- no call runs a sweep past the limit
pub sweeps_total : (F : Figures) (n : ℕ) (μ : List ℤ) (total : ℕ) → total ≤ sweep_limit → (sweeps F n μ total).swept ≤ sweep_limit
unfolding sweeps
sweeps_total F zero μ total few = few
sweeps_total F (suc n) μ total few =
    by_test (passes F (part μ)) (leb sweep_limit total) (nleb→lt sweep_limit total) (sweeps_total F n (one_sweep F μ) (suc total))
  where
    by_test : (p t : Bool) → (T (not t) → total < sweep_limit)
        → (total < sweep_limit → (sweeps F n (one_sweep F μ) (suc total)).swept ≤ sweep_limit)
        → (cond (p || t) (record { mean = μ; swept = total }) (sweeps F n (one_sweep F μ) (suc total))).swept ≤ sweep_limit
    by_test true t less further = few
    by_test false true less further = few
    by_test false false less further = further (less tt)

good_cond : (t : Bool) (a b : Outcome StruckFile) → Good a.state → Good b.state → Good (cond t a b).state
good_cond true a b x y = x
good_cond false a b x y = y

good_write : (size : ℕ → ℕ) (text : Figures → List ℤ → Bytes) (st : State StruckFile) (b : Bytes)
    → Good st → Good (write_call figures_left size text st b).state
unfolding write_call
good_write size text empty b g = g
good_write size text (holds f μ total) b g =
    good_cond (not (passes (figures_left f) (part μ))) _ _ g (good_cond (ltb (length b) (size (figures_left f).last)) _ _ g g)

-- a strike that is not refused leaves a step in each column, and starts again from the prior means
good_strike : (f : StruckFile) (μ : List ℤ) (total : ℕ) (s : Step) → Good (holds f μ total) → (c : Check)
    → strike_check (last_year f.file) (is_struck f) s ≡ c → Good (strike_unless the_file c s f μ total).state
good_strike f μ total s g clear e =
    let J : ℕ = last_year f.file in
    let h = strikable J (is_struck f) s e in (
      record { taken = g.0.taken; left = strike_leaves J (is_struck f) s g.0.left h.there h.unstruck h.another },
      priors_mean f.file (accepted_file f.file g.0.taken),
      zero-le,
    )
good_strike f μ total s g (refuses number place) e = g

pub good_call : (st : State StruckFile) (call : Call) → Good st → Good (machine st call).state
unfolding outcome open_call sweep_call strike_call figures_from
good_call empty (open_file f) g = by_check (file_check f) refl
  where
    by_check : (c : Check) → file_check f ≡ c → Good (open_unless the_file c f).state
    by_check clear e =
        let yes_file : accepted f ≡ true = ap is_clear e in
        (admitted f yes_file, priors_mean f (accepted_file f yes_file), zero-le)
    by_check (refuses number place) e = tt
good_call (holds f μ total) (open_file h) g = g
good_call st (judge r) g = g
good_call empty (sweep n) g = g
good_call (holds f μ total) (sweep n) g =
    let carried = (struck_chain f g.0).1 in
    let came = sweeps_came (chain_left f) (closeness f.file) carried n μ total g.1 in
    good_cond (not (within 1 sweep_limit n)) _ _ g (good_cond (passes (figures_left f) (part μ)) _ _ g (good_cond (leb sweep_limit total) _ _ g
    (g.0, came.mean, sweeps_total (figures_left f) n μ total g.2)))
good_call st (read b) g = good_write record_length record_in st b g
good_call st (page b) g = good_write page_length page_in st b g
good_call st (ultimate year) g = g
good_call empty (strike s) g = g
good_call (holds f μ total) (strike s) g = good_strike f μ total s g (strike_check (last_year f.file) (is_struck f) s) refl
good_call st (residues r b) g = subst Good (sym (residues_alone chain_left st r b)) g
good_call st (row f channel year) g = g
good_call st (row_told f channel year) g = g
good_call st close g = tt

good_after : (calls : List Call) (st : State StruckFile) → Good st → Good (after st calls)
unfolding after
good_after [] st g = g
good_after (call ∷ calls) st g = good_after calls (machine st call).state (good_call st call g)

pub reached_good : (calls : List Call) → Good (after empty calls)
reached_good calls = good_after calls empty tt
