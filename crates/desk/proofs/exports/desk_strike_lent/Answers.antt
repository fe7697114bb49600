-- `exports::desk_strike_lent` meets its contract: its answer stands for the session's.
use Rattle.std.specs.Prelude.{refl}
use Rattle.striking.specs.Strikes.{of_strike}
use Rattle.telling.specs.Told.{refusal_told}
use Rattle.desk.proofs.CallLaws.{of_answer, strikes_told}
use Rattle.desk.proofs.exports.desk_strike_lent.Goals as goal

pub returns : goal.returns
returns c variances = strikes_told _ _ _ _ _ _ (c.strike_lent.ensures variances) (of_answer refusal_told of_strike (λ _. refl) _ c.done_told.ensures.struck)
