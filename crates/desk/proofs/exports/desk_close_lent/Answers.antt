-- `exports::desk_close_lent` meets its contract: J is 0.
use Rattle.std.proofs.Common.{[], ◌∷◌, refl}
use Rattle.desk.proofs.CallLaws.{closed}
use Rattle.desk.proofs.exports.desk_close_lent.Goals as goal

pub returns : goal.returns
returns c = closed (0 ∷ 0 ∷ 0 ∷ []) refl
