-- What a check that is clear says of the checks and the fields that it is made of; and two checks side by side, of which the one lets
-- through whatever the other does.
use Rattle.std.specs.Prelude.{◌≡◌, true}
use Rattle.definitions.specs.Refusals.{Check, is_clear}

pub record Both (a b : Check) : Type 0 where
  pub first : is_clear a ≡ true
  pub second : is_clear b ≡ true

-- where the first check lets an input through, both answer alike
abbrev pub Kept : Check → Check → Type 0
Kept a b = is_clear a ≡ true → a ≡ b
