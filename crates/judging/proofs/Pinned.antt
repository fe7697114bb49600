-- What callers can count on, in plain numbers, each drawn from the contract of judge alone.
use Rattle.std.specs.Prelude.{ℕ, ◌≡◌, List, ℤ, Result, Ok}
use Rattle.definitions.specs.Words.{part}
use Rattle.definitions.specs.Layout.{Bytes, last_year, closeness, mean_of}
use Rattle.definitions.specs.Refusals.{clear, record_check}
use Rattle.definitions.specs.Strikes.{StruckFile}
use Rattle.laws.proofs.Pinned.{Worth, worth, Near, rounded}
use Rattle.layout.specs.declared.refusals.Refusal.{Refusal}
use Rattle.chain.specs.declared.judge.Judgement.{Judgement}
use Rattle.chain.specs.declared.judge.Judgement.TheVariants.{Passed}
use Rattle.holding.specs.State.{Held, HoldsFile}
use Rattle.judging.specs.Judges.{Judges}

module _ (f : StruckFile) (s : Held) (μ : List ℤ) (count : ℕ) (open-file : HoldsFile s f μ count) (r : Bytes) {a : Result Judgement Refusal}
    (call : Judges s r a) where
  pub judge_worth : {e : ℕ} → closeness f.file ≡ e → a ≡ Ok Passed → Worth f e (part (mean_of (last_year f.file) r))
  judge_worth close passing = worth f close (call.worth f μ count open-file passing)

  pub judge_rounded : record_check (last_year f.file) r ≡ clear → Near f (part (mean_of (last_year f.file) r)) → a ≡ Ok Passed
  judge_rounded right h = call.rounded f μ count open-file right (rounded f h)
