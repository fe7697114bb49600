-- What the calls' contracts take for an open file, that every file which calls reach is one, and that the test of the bounds turns no
-- session away that calls reach: all once more, with nothing named.
use Rattle.std.specs.Prelude.{ℕ, ◌+◌, ◌≤◌, ◌<◌, ◌≡◌, true, false, List, ℤ}
use Rattle.definitions.specs.Layout.{last_year}
use Rattle.definitions.specs.Refusals.{accepted}
use Rattle.definitions.specs.Strikes.{step, StruckFile, is_struck, figures_left}
use Rattle.definitions.specs.Machine.{empty, holds, Call}
use Rattle.laws.proofs.StruckSteps.{each_left}
use Rattle.laws.specs.ReachedStates.{after}
use Rattle.chain.specs.Arrays.{figures_of, mean_of}
use Rattle.holding.specs.State.{Held, state_of, HoldsFile}
use Rattle.holding.proofs.StateLaws.{state_of_held}
use Rattle.holding.specs.Reached.{reached_fits, reached_admitted}

module _ (s : Held) (f : StruckFile) (μ : List ℤ) (total : ℕ) where
  -- an accepted file, of which each column has a step that is not struck
  pub open-file : accepted f.file ≡ true
      → ((j : ℕ) → j ≤ last_year f.file → (i : ℕ) × (i + j ≤ last_year f.file) × (is_struck f (step 0 i j) ≡ false))
      → ((j : ℕ) → j < last_year f.file → (i : ℕ) × (i + j < last_year f.file) × (is_struck f (step 1 i j) ≡ false))
      → state_of s ≡ holds (figures_left f) μ total → HoldsFile s f μ total
  open-file taken x z state =
      record { file = record { taken = taken; left = each_left (last_year f.file) (is_struck f) x z }; state = state }

  module _ (calls : List Call) (reached : after empty calls ≡ holds f μ total) where
    pub reached_open : figures_of s.figures ≡ figures_left f → mean_of s.figures.last s.mean ≡ μ → s.total ≡ total
        → state_of s ≡ holds (figures_of s.figures) (mean_of s.figures.last s.mean) s.total
    reached_open figures mean count =
        state_of_held s (reached_fits calls f μ total reached s (record { figures = figures; mean = mean; count = count }))

    pub reached_holds : state_of s ≡ holds (figures_left f) μ total → HoldsFile s f μ total
    reached_holds state = record { file = reached_admitted calls f μ total reached; state = state }
