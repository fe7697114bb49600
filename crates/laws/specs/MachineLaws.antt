-- The session machine of the specification answers alike on what a session keeps of a file.
use Prim.Native.Nat.{ℕ, ◌+◌, ◌≤◌, ◌<◌}
use Rattle.std.specs.Prelude.{◌≡◌}
use Rattle.definitions.specs.Layout.{Bytes}
use Rattle.definitions.specs.Strikes.{Step, step}
use Rattle.definitions.specs.Machine.{map_state, Keeping, Outcome}
use Rattle.laws.specs.SameChains.{SameChain}
use Rattle.laws.specs.Ultimates.{SameLatest}

abbrev pub map_outcome : {X Y : Type 0} → (X → Y) → Outcome X → Outcome Y
map_outcome φ o = record { answer = o.answer; state = map_state φ o.state; buffer = o.buffer }

-- the latest amounts, the observations and the marks as far as they exist
pub record Alike {X Y : Type 0} (K : Keeping X) (L : Keeping Y) (φ : X → Y) : Type 0 where
  pub keeps : (f : Bytes) → φ (K.keep f) ≡ L.keep f
  pub figures : (x : X) → L.figures (φ x) ≡ K.figures x
  pub prior_means : (x : X) → L.prior_means (φ x) ≡ K.prior_means x
  pub latest : (x : X) → SameLatest (K.figures x).last (L.latest (φ x)) (K.latest x)
  pub years : (x : X) → (L.chain (φ x)).last ≡ (K.chain x).last
  pub chain : (x : X) → SameChain (K.chain x) (L.chain (φ x))
  pub struck_x : (x : X) (i j : ℕ) → i + j ≤ (K.figures x).last → L.struck (φ x) (step 0 i j) ≡ K.struck x (step 0 i j)
  pub struck_z : (x : X) (i j : ℕ) → i + j < (K.figures x).last → L.struck (φ x) (step 1 i j) ≡ K.struck x (step 1 i j)
  pub strikes : (x : X) (s : Step) → φ (K.strike_out s x) ≡ L.strike_out s (φ x)
