-- `readings::prior_variance` meets its contract: the place is the definition's. Assumes nothing.
use native.Mathlib.Omega.{arith}
use mathlib.Core.Path.{◌≡◌, ap, ◌∙◌}
use Prim.Native.Nat.{◌+◌, ◌*◌}
use Rattle.definitions.specs.Layout.{unsigned, last_year, prior_variance_at}
use Rattle.readings.proofs.prior_variance.Goals as goal

pub returns : goal.returns
returns c =
    let a = c.args in
    let s = a.s.now in
    let place : 14 + 8 * c.parts_of.result + 12 * a.k ≡ prior_variance_at (last_year s) a.k = omega arith in
    c.eight.ensures ∙ ap (λ at. unsigned 8 at s) place
