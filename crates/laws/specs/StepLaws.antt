-- One step of a sweep: it changes one part, which stays inside the limits; the new residues are the old plus the part's column times
-- the change; and the loss does not grow.
use Rattle.std.specs.Prelude.{ℤ, pos, neg_ℤ}
use Rattle.definitions.specs.Refusals.{part_limit}

abbrev pub top : ℤ
top = pos part_limit

abbrev pub bottom : ℤ
bottom = neg_ℤ (pos part_limit)
