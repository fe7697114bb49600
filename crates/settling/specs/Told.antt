-- What a program prints that makes its text of a mean that settled.
use Rattle.std.specs.Prelude.{ℕ}
use Rattle.definitions.specs.Layout.{Bytes}
use Rattle.definitions.specs.Programs.{Show, program_text}
use Rattle.laws.specs.Printed.{MeanSettled}
use Rattle.holding.specs.State.{state_of}
use Rattle.session.specs.declared.Session.{Session}
use Rattle.session.specs.Value.{held_by}
use Rattle.settling.specs.declared.gathered.Printed.{Printed}
use Rattle.settling.specs.Printed.{Prints}

-- without a mean it prints the same whatever would be shown of one; else what was made of a session that holds the mean
pub data Told (given : Bytes) (made : Session → ℕ → Type 0) (r : Printed) : Type 0 where
  without : ((show : Show) → Prints (program_text show given) r) → Told given made r
  shown : (s : Session) (total : ℕ) → MeanSettled given (state_of (held_by s)) total → made s total → Told given made r

-- what is shown of a mean is what a mean is to be shown as
pub told : {given : Bytes} {made : Session → ℕ → Type 0} {r : Printed} → Told given made r → (show : Show)
    → ((s : Session) (total : ℕ) → MeanSettled given (state_of (held_by s)) total → made s total → Prints (program_text show given) r)
    → Prints (program_text show given) r
told (without same) show shows = same show
told (shown s total m made) show shows = shows s total m made
