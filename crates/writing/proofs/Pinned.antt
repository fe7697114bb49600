-- What callers can count on, in plain numbers, drawn from the contract of a call that writes alone: of a record and of a page alike.
use Rattle.std.specs.Prelude.{ℕ, ◌≡◌, List, ℤ, Result, IsOk}
use Rattle.definitions.specs.Words.{part}
use Rattle.definitions.specs.Layout.{Bytes, closeness}
use Rattle.definitions.specs.Strikes.{StruckFile}
use Rattle.laws.proofs.Pinned.{Worth, worth}
use Rattle.layout.specs.declared.refusals.Refusal.{Refusal}
use Rattle.holding.specs.State.{Held, HoldsFile}
use Rattle.writing.specs.Writes.{Text, Writes}

module _ (f : StruckFile) (s : Held) (μ : List ℤ) (count : ℕ) (open-file : HoldsFile s f μ count) where
  pub write_worth : (size : ℕ → ℕ) (text : Text) (buffer : Bytes) {a : Result Unit Refusal} {now : Bytes} → Writes size text s buffer a now
      → {e : ℕ} → closeness f.file ≡ e → IsOk a → Worth f e (part μ)
  write_worth size text buffer call close writing = worth f close (call.worth f μ count open-file writing)
