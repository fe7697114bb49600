-- What callers can count on, in plain numbers, drawn from the contract of the call alone: that floor, remainder and divisor are those of
-- the numerator, of every session, and what the mean is worth that they are taken from.
use Rattle.std.specs.Prelude.{ℕ, ◌<◌, ◌≡◌, refl, Ok, List, ℤ, pos, ◌+ℤ◌, ◌*ℤ◌}
use Rattle.definitions.specs.Words.{part}
use Rattle.definitions.specs.Layout.{closeness}
use Rattle.definitions.specs.Matrix.{Figures}
use Rattle.definitions.specs.Strikes.{StruckFile}
use Rattle.definitions.specs.Ultimate.{numerator, both_variances}
use Rattle.definitions.specs.Machine.{holds}
use Rattle.laws.proofs.Pinned.{Worth, worth}
use Rattle.observations.specs.declared.Observations.{Observations}
use Rattle.holding.specs.State.{Held, state_of, HoldsFile}
use Rattle.projecting.specs.declared.Ultimate.{Ultimate}
use Rattle.projecting.specs.Projects.{latest_with, Projects}

module _ (o : Observations) (s : Held) (year : ℕ) (u : Ultimate) (call : Projects o s year (Ok u)) where
  pub ultimate_exact : (F : Figures) (μ : List ℤ) (count : ℕ) → state_of s ≡ holds F μ count
      → (u.floor *ℤ pos u.divisor +ℤ pos u.remainder ≡ numerator F.last (latest_with o F) year (part μ))
      × (u.remainder < u.divisor)
      × (u.divisor ≡ both_variances F.last (latest_with o F) year)
  ultimate_exact F μ count some = let h = call.exact F μ count some u refl in (h.0.whole, h.0.below, h.1)

  pub ultimate_worth : (f : StruckFile) (μ : List ℤ) (count : ℕ) → HoldsFile s f μ count
      → {e : ℕ} → closeness f.file ≡ e → Worth f e (part μ)
  ultimate_worth f μ count open-file close = worth f close (call.worth f μ count open-file u refl)
