-- Both halves of demand 3, of an open file: what a mean that passes is worth, and which must pass.
use Rattle.std.specs.Prelude.{ℕ, ◌≡◌, true, List, ℤ}
use Rattle.definitions.specs.Words.{part}
use Rattle.definitions.specs.Layout.{closeness}
use Rattle.definitions.specs.Matrix.{passes}
use Rattle.definitions.specs.Strikes.{StruckFile, chain_left, figures_left}
use Rattle.definitions.specs.Guarantee.{Guarantee, Rounded}
use Rattle.laws.proofs.Demand3.{demand3}
use Rattle.holding.specs.State.{Held, HoldsFile}

module _ {s : Held} {f : StruckFile} {μ : List ℤ} {total : ℕ} (open-file : HoldsFile s f μ total) (u : List ℤ) where
  pub worth : passes (figures_left f) (part u) ≡ true → Guarantee (chain_left f) (closeness f.file) (part u)
  worth passing = demand3.guarantee f open-file.file (part u) passing

  pub rounded : Rounded (chain_left f) (closeness f.file) (part u) → passes (figures_left f) (part u) ≡ true
  rounded r = demand3.rounding f open-file.file (part u) r
