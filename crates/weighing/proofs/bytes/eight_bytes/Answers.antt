use Rattle.std.proofs.Common.{◌≡◌, ◌∙◌, ap, refl, ℤ, pos, negsuc}
use Rattle.std.proofs.Math.Facts.{to_z-of_z}
use mir.Syntax.{w64}
use mir.Val.{of_z}
use Rattle.definitions.specs.Layout.{complement}
use Rattle.weighing.proofs.bytes.eight_bytes.Goals as goal

in_eight : (z : ℤ) → of_z w64 z ≡ complement 8 z
unfolding complement
in_eight (pos n) = refl
in_eight (negsuc n) = refl

pub returns : goal.returns
returns c = c.cast_unsigned.ensures ∙ ap (of_z w64) (to_z-of_z c.ranges.z) ∙ in_eight c.args.z
