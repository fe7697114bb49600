-- The digits of a number.
use Rattle.std.proofs.Common.{◌∙◌}
use Rattle.std.proofs.lemmas.List.{take_rest}
use Rattle.text.specs.Digits.{spelt_end}
use Rattle.text.specs.Added.{in_words}
use Rattle.text.proofs.put.put_decimal.Goals as goal

pub returns : goal.returns
returns g c = in_words (take_rest c.spell-spelt.result.bytes c.spell-spelt.result.from ∙ spelt_end c.spell-spelt.ensures) c.put.ensures
