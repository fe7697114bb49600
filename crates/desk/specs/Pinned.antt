-- What C's callers can count on, in plain numbers, each drawn from the contract of a call alone.
use Rattle.std.specs.Prelude.{ℕ}
use Rattle.telling.specs.declared.Refusal.{Refusal}

abbrev pub refusal : ℕ → ℕ → Refusal
refusal number place = record { number = number; place = place }
