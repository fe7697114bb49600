-- What a session that is a value holds.
use Rattle.holding.specs.State.{Held}
use Rattle.session.specs.declared.Session.{Session}

abbrev pub held_by : Session → Held
held_by s = record { figures = s.figures; mean = s.mean; total = s.total }
