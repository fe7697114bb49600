-- A name, a number, and the line of a place, one behind the other.
use mathlib.Core.Path.{◌∙◌}
use Rattle.definitions.specs.Words.{tab_from}
use Rattle.definitions.specs.Text.{ascii}
use Rattle.text.specs.Added.{both}
use Rattle.text.proofs.put.put_refusal.Goals as goal

pub returns : goal.returns
unfolding ascii tab_from
returns c =
    let named = c.put-named in
    let numbered = c.put_decimal-numbered in
    both (both named.ensures named.auto.page numbered.ensures) (numbered.auto.page ∙ named.auto.page) c.put_count.ensures
