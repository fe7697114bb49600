use Rattle.std.proofs.Common.{◌≡◌, ◌∙◌, ◌≤◌, ◌^◌, ap, arith, ℤ, pos, negsuc, nat_abs, refl}
use Rattle.std.proofs.Math.Facts.{to_z-of_z}
use Rattle.integers.specs.Size.{kept}
use mir.Syntax.{w32, w64}
use mir.Val.{to_z, of_z}
use Rattle.definitions.specs.Layout.{four_bytes}
use Rattle.records.proofs.four_bytes.Goals as goal

complement : (z : ℤ) → nat_abs z ≤ 2 ^ 26 → of_z w32 z ≡ four_bytes z
unfolding four_bytes
complement (pos n) h = refl
complement (negsuc n) h = refl

pub returns : goal.returns
returns c =
    let z = c.args.z in
    let whole : to_z w64 (of_z w64 z) ≡ z = to_z-of_z c.ranges.z in
    let short : to_z w32 (of_z w32 z) ≡ z = kept w32 refl (omega (arith, c.requires)) in
    c.from.ensures
    ∙ c.cast_unsigned.ensures
    ∙ ap (λ x. of_z w32 (to_z w32 (of_z w32 x))) whole
    ∙ ap (of_z w32) short
    ∙ complement z c.requires
