-- What C's callers can count on of an ultimate, in plain numbers, drawn from its contract alone: of any session, and of one that keeps an
-- accepted file in document 02's letters (`PinnedUltimate` of the laws).
use Rattle.std.specs.Prelude.{ℕ, pos}
use Rattle.telling.specs.declared.Projected.{Projected}

abbrev pub refused_with : ℕ → Projected
refused_with number = record { refusal = record { number = number; place = 0 }; floor = pos 0; remainder = 0; divisor = 0 }
