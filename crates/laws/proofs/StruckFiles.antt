-- The chain that is left of an accepted file is bounded and carried, whatever is struck.
use Rattle.std.specs.Prelude.{◌≡◌, true, false}
use Rattle.definitions.specs.Layout.{Bytes, last_year}
use Rattle.definitions.specs.Refusals.{accepted}
use Rattle.definitions.specs.Observations.{chain_of}
use Rattle.definitions.specs.Strikes.{StruckFile, is_struck, Admitted, unstruck, chain_left}
use Rattle.laws.specs.Accepted.{AcceptedFile}
use Rattle.laws.proofs.Accepted.{accepted_file}
use Rattle.laws.specs.Chains.{Bounded, Carried}
use Rattle.laws.proofs.FileWeights.{file_carries}
use Rattle.laws.proofs.FileChain.{file_bounded}
use Rattle.laws.proofs.StruckChain.{none_struck, left_bounded, left_carried}

pub struck_chain : (f : StruckFile) → Admitted f → Bounded (chain_left f) × Carried (chain_left f)
struck_chain f h =
    let known = accepted_file f.file h.taken in (
      left_bounded (chain_of f.file) (is_struck f) (file_bounded f.file known),
      left_carried (chain_of f.file) (is_struck f) h.left (file_carries f.file known),
    )

-- as it is opened
pub file_chain : (f : Bytes) → AcceptedFile f → Bounded (chain_of f) × Carried (chain_of f)
file_chain f h = (file_bounded f h, left_carried (chain_of f) (λ s. false) (none_struck (last_year f)) (file_carries f h))

pub admitted : (f : Bytes) → accepted f ≡ true → Admitted (unstruck f)
admitted f yes_file = record { taken = yes_file; left = none_struck (last_year f) }
