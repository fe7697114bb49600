-- The machine's outcome of an open, case by case: what the call shows of its answer.
use Rattle.std.specs.Prelude.{◌≡◌, refl, false, Ok, Err}
use Rattle.definitions.specs.Words.{tab_from}
use Rattle.definitions.specs.Layout.{Bytes, last_year, parts, prior_mean}
use Rattle.definitions.specs.Refusals.{clear, refuses, file_check}
use Rattle.definitions.specs.Matrix as D
use Rattle.definitions.specs.Machine.{open_call}
use Rattle.definitions.specs.Kept.{observed_of, marks_of}
use Rattle.layout.specs.declared.refusals.Reason.TheVariants.{FileOpen}
use Rattle.layout.specs.declared.refusals.Refusal.{Refusal}
use Rattle.layout.specs.Refusals.{number_of}
use Rattle.observations.specs.declared.Observations.{Observations}
use Rattle.observations.specs.Arrays.{observed_in, struck_in}
use Rattle.chain.specs.Arrays.{figures_of, mean_of}
use Rattle.holding.specs.State.{Held, Fits}
use Rattle.holding.proofs.StateLaws.{state_of_held, state_of_empty}
use Rattle.opening.specs.Opens.{Opens}

module _ (s : Held) (o : Observations) (file : Bytes) where
  pub opens_taken : Fits s → Opens s o file (Err (record { reason = FileOpen; place = 0 })) s o
  unfolding open_call
  opens_taken h = let e = state_of_held s h in record {
    answer = rw e refl;
    state = rw e refl;
    same = λ refused. (refl, refl);
  }

  pub opens_refused : ¬ Fits s → (refusal : Refusal) → file_check file ≡ refuses (number_of refusal.reason) refusal.place
      → Opens s o file (Err refusal) s o
  unfolding open_call
  opens_refused h refusal c = let e = state_of_empty s h in record {
    answer = rw (e, c) refl;
    state = rw (e, c) refl;
    same = λ refused. (refl, refl);
  }

  pub opens_done : ¬ Fits s → file_check file ≡ clear → (t : Held) (p : Observations) → Fits t
      → figures_of t.figures ≡ D.figures_of file → observed_in (last_year file) p ≡ observed_of file
      → struck_in (last_year file) p ≡ marks_of (last_year file) (λ s. false)
      → mean_of t.figures.last t.mean ≡ tab_from 0 (parts (last_year file)) (prior_mean file) → t.total ≡ 0
      → Opens s o file (Ok tt) t p
  unfolding open_call D.figures_from
  opens_done h c t p fits figures observed struck mean total = let e = state_of_empty s h in record {
    answer = rw (e, c) refl;
    state = rw (e, c, state_of_held t fits, figures, observed, struck, mean, total) refl;
    same = λ refused. cc;
  }
