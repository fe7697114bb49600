-- What C's callers can count on of residues, in plain numbers, drawn from the contract of the call alone: of any session, and of one that
-- keeps a file.
use Rattle.std.specs.Prelude.{ℕ}
use Rattle.telling.specs.declared.Refusal.{Refusal}

abbrev pub refusal : ℕ → ℕ → Refusal
refusal number place = record { number = number; place = place }
