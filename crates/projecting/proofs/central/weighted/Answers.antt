-- `weighted` meets its contract: two products, their sum and its quotient, none of which wraps.
use Prim.Native.Nat.{ℕ, ◌+◌, ◌^◌, ◌≤◌}
use mathlib.Core.Path.{refl, ap, subst, ◌∙◌}
use native.Mathlib.Omega.{arith}
use lib.IntN.{ℤ, pos, nat_abs, ◌*ℤ◌, ◌+ℤ◌}
use Rattle.integers.specs.Bits.{stored, read, same}
use Rattle.arithmetic.specs.declared.wide.Wide.{Wide}
use Rattle.arithmetic.specs.Wide.{IsWide}
use Rattle.projecting.specs.declared.central.Side.{Side}
use Rattle.projecting.proofs.CentralLaws.{sum_asked, division_asked, value_is}
use Rattle.projecting.proofs.central.weighted.Goals as goal
use Rattle.projecting.proofs.central.weighted.Goals.{After-product-of_incurred}

-- a product, with its operand as it was before it was stored
as_read : (n : ℕ) (z : ℤ) {w : Wide} → nat_abs z ≤ 2 ^ 30 → IsWide (pos n *ℤ stored z) w → IsWide (pos n *ℤ z) w
as_read n z {w} small h = subst (λ y. IsWide (pos n *ℤ y) w) (read z (omega (arith, small))) h

module _ (c : After-product-of_incurred) where
  abbrev paid : Side
  paid = c.args.paid

  abbrev incurred : Side
  incurred = c.args.incurred

  of_paid : IsWide (pos incurred.variance.0 *ℤ paid.ultimate.0) c.product-of_paid.result
  of_paid = as_read incurred.variance.0 paid.ultimate.0 c.requires.paid_small c.product-of_paid.ensures

  of_incurred : IsWide (pos paid.variance.0 *ℤ incurred.ultimate.0) c.product-of_incurred.result
  of_incurred = as_read paid.variance.0 incurred.ultimate.0 c.requires.incurred_small c.product-of_incurred.ensures

pub sum-requires : goal.sum-requires
sum-requires c =
    let after_product_of_incurred = (goal.at.sum-requires c).After-product-of_incurred in
    sum_asked c.requires (of_paid after_product_of_incurred) (of_incurred after_product_of_incurred)

pub divided-found-requires : goal.divided-found-requires
divided-found-requires c =
    let after_product_of_incurred = (goal.at.divided-found-requires c).After-product-of_incurred in
    division_asked c.requires (of_paid after_product_of_incurred) (of_incurred after_product_of_incurred) c.sum.ensures

pub returns : goal.returns
returns c =
    let after_product_of_incurred = (goal.at.returns c).After-product-of_incurred in
    record {
      divided = record {
        whole =
            ap (λ q. q *ℤ pos ((paid after_product_of_incurred).variance.0 + (incurred after_product_of_incurred).variance.0)
            +ℤ pos c.divided-found.result.rest)
            (same c.divided-found.result.floor c.struct_told-3-1.given.0.1)
            ∙ c.divided-found.ensures.whole
            ∙ value_is c.requires (of_paid after_product_of_incurred) (of_incurred after_product_of_incurred) c.sum.ensures;
        below = c.divided-found.ensures.below;
      };
      divisor = refl;
    }
