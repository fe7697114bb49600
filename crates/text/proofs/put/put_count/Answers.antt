-- A name, a number and the end of the line, one behind the other.
use mathlib.Core.Path.{◌∙◌}
use Rattle.text.specs.Added.{both}
use Rattle.text.proofs.put.put_count.Goals as goal

pub returns : goal.returns
returns c =
    let named = c.put-named in
    let counted = c.put_decimal-counted in
    both (both named.ensures named.auto.page counted.ensures) (counted.auto.page ∙ named.auto.page) c.put.ensures
