-- What is held of a value, with its observations, is all of it, so that a call which leaves both leaves the very session.
use Rattle.std.specs.Prelude.{◌≡◌}
use Rattle.std.proofs.Common.{ap₂}
use Rattle.session.specs.declared.Session.{Session}
use Rattle.session.specs.Value.{held_by}

pub held_whole : (s t : Session) → held_by t ≡ held_by s → t.observations ≡ s.observations → t ≡ s
held_whole s t same observed =
    ap₂ (λ h o. record { observations = o; figures = h.figures; mean = h.mean; total = h.total }) same observed
