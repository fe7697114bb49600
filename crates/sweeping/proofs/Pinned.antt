-- What callers can count on, in plain numbers, each drawn from the contract of sweep alone.
use Rattle.std.specs.Prelude.{ℕ, ◌≤◌, ◌≡◌, refl, List, ℤ, Result, Ok, Err}
use Rattle.definitions.specs.Words.{part}
use Rattle.definitions.specs.Layout.{closeness}
use Rattle.definitions.specs.Strikes.{StruckFile}
use Rattle.laws.proofs.Pinned.{Worth, worth, Near, rounded}
use Rattle.layout.specs.CheckLaws.{within_yes}
use Rattle.layout.specs.declared.refusals.Refusal.{Refusal}
use Rattle.holding.specs.State.{Held, HoldsFile}
use Rattle.sweeping.specs.declared.Progress.{Progress}
use Rattle.sweeping.specs.declared.Progress.TheVariants.{Settled}
use Rattle.sweeping.specs.Sweeps.{Sweeps}

module _ (f : StruckFile) (s t : Held) (μ ν : List ℤ) (count after : ℕ) (before : HoldsFile s f μ count) (then : HoldsFile t f ν after)
    (n : ℕ) {a : Result Progress Refusal} (call : Sweeps s n a t) where
  pub sweep_worth : {e : ℕ} → closeness f.file ≡ e → a ≡ Ok (Settled after) → Worth f e (part ν)
  sweep_worth close settling = worth f close (call.worth f μ ν count after before then settling)

  pub sweep_rounded : 1 ≤ n → n ≤ 4096 → Near f (part ν) → a ≡ Ok (Settled after)
  sweep_rounded from to h = call.rounded f μ ν count after before then (within_yes refl from to) (rounded f h)

-- a call that is refused leaves the session as it was
pub sweep_refused : (s t : Held) (n : ℕ) (r : Refusal) → Sweeps s n (Err r) t → t ≡ s
sweep_refused s t n r call = call.same r refl
