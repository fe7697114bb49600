-- Every state that a list of calls reaches from the empty one is empty, or an accepted file with a step left in each column, a mean inside
-- the limits and a total of at most 4,096.
use Rattle.std.specs.Prelude.{List, [], ◌∷◌}
use Rattle.definitions.specs.Strikes.{StruckFile}
use Rattle.definitions.specs.Machine.{Call}
use Rattle.definitions.specs.Machine.{State}
use Rattle.definitions.specs.Machine.{machine}

-- the state after a list of calls
unfoldable pub after : State StruckFile → List Call → State StruckFile
after st [] = st
after st (call ∷ calls) = after (machine st call).state calls
