-- The contract of sweep: answer and state are the machine's, a refused call leaves the very session that it was lent, and the caller is
-- told both halves of demand 3 of the mean that is held after it.
use Rattle.std.specs.Prelude.{ℕ, ◌≡◌, true, List, ℤ, Result, Ok, Err}
use Rattle.definitions.specs.Words.{within, part}
use Rattle.definitions.specs.Layout.{closeness}
use Rattle.definitions.specs.Matrix.{Figures}
use Rattle.definitions.specs.Strikes.{StruckFile, chain_left}
use Rattle.definitions.specs.Sweep.{sweep_limit}
use Rattle.definitions.specs.Machine as M
use Rattle.definitions.specs.Machine.{Answer, State, Outcome, sweep_call}
use Rattle.definitions.specs.Guarantee.{Guarantee, Rounded}
use Rattle.layout.specs.declared.refusals.Refusal.{Refusal}
use Rattle.layout.specs.Refusals.{refused_as}
use Rattle.holding.specs.State.{Held, state_of, HoldsFile}
use Rattle.sweeping.specs.declared.Progress.{Progress}
use Rattle.sweeping.specs.declared.Progress.TheVariants.{Settled, Going}

-- the specification's number, place and values for every case of an answer
abbrev pub of_sweep : Result Progress Refusal → Answer
of_sweep (Ok (Settled total)) = M.settled total
of_sweep (Ok (Going total)) = M.going total
of_sweep (Err r) = refused_as r

-- the machine on figures, which are all that it uses of what is kept
abbrev pub sweeps_to : State Figures → ℕ → Outcome Figures
sweeps_to = sweep_call (λ F. F)

-- of what is held before, and of what is held after
pub record Sweeps (s : Held) (n : ℕ) (r : Result Progress Refusal) (t : Held) : Type 0 where
  pub answer : of_sweep r ≡ (sweeps_to (state_of s) n).answer
  pub state : state_of t ≡ (sweeps_to (state_of s) n).state
  pub same : (e : Refusal) → r ≡ Err e → t ≡ s
  -- the mean that is held after it
  pub worth : (f : StruckFile) (μ ν : List ℤ) (total after : ℕ) → HoldsFile s f μ total → HoldsFile t f ν after
      → r ≡ Ok (Settled after) → Guarantee (chain_left f) (closeness f.file) (part ν)
  -- a number that is not refused, and a rounded mean that is held after it
  pub rounded : (f : StruckFile) (μ ν : List ℤ) (total after : ℕ) → HoldsFile s f μ total → HoldsFile t f ν after
      → within 1 sweep_limit n ≡ true → Rounded (chain_left f) (closeness f.file) (part ν) → r ≡ Ok (Settled after)
