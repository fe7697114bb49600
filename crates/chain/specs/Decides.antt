-- An answer that tells whether something holds.
use Rattle.std.specs.Prelude.{◌≡◌, Bool, true, false}
use Rattle.std.proofs.Common.{true≢false}
use Rattle.std.proofs.lemmas.Bool.{false≢true}

pub record Decides (P : Type 0) (r : Bool) : Type 0 where
  pub when_yes : r ≡ true → P
  pub when_no : r ≡ false → ¬ P

pub decided_yes : {P : Type 0} → P → Decides P true
decided_yes p = record { when_yes = λ _. p; when_no = λ e. absurd (true≢false e) }

pub decided_no : {P : Type 0} → ¬ P → Decides P false
decided_no n = record { when_yes = λ e. absurd (false≢true e); when_no = λ _. n }
