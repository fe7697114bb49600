-- What C's callers can count on of a strike, in plain numbers, drawn from its contract alone: of any session, and of one that keeps a file.
use Rattle.std.specs.Prelude.{ℕ}
use Rattle.telling.specs.declared.Refusal.{Refusal}

abbrev pub refusal : ℕ → Refusal
refusal number = record { number = number; place = 0 }
