-- A number, right-aligned: the last columns of its 20 bytes.
use Rattle.std.proofs.Common.{◌-◌, ◌∙◌}
use Rattle.std.proofs.lemmas.List.{take_rest}
use Rattle.text.specs.Digits.{spelt_columns}
use Rattle.text.specs.Added.{in_words}
use Rattle.text.proofs.put.put_in.Goals as goal

pub returns : goal.returns
returns g c =
    in_words
    (take_rest c.spell-spelt.result.bytes (20 - c.args.columns)
    ∙ spelt_columns c.args.columns c.spell-spelt.ensures c.requires.fits c.requires.few) c.put.ensures
