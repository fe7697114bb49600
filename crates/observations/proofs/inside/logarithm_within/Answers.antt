-- `observations::inside::logarithm_within` meets its contract: the library's clamp is `log_within`.
use mathlib.Core.Path.{ap, ◌∙◌}
use mir.Facts.{to_z-of_z}
use lib.IntN.{pos}
use Rattle.std.specs.Int.{int_max, int_min}
use Rattle.integers.specs.Bits.{same}
use Rattle.observations.proofs.InsideLaws.{log_clamped}
use Rattle.observations.proofs.inside.logarithm_within.Goals as goal

pub returns : goal.returns
returns c =
    same c.clamp.result c.clamp.type_inv
    ∙ c.clamp.ensures.value
    ∙ ap (λ z. int_max (pos 0) (int_min z (pos 46137344))) (to_z-of_z c.ranges.z)
    ∙ log_clamped c.args.z
