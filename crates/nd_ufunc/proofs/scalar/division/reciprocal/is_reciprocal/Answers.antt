use Rattle.std.proofs.Common.{◌-◌, ◌*◌, ◌^◌, ◌≤◌, leb-true, subst}
use Rattle.nd_ufunc.specs.Scalar.Division.{IsReciprocal}
use Rattle.nd_ufunc.proofs.scalar.Reciprocals.{reciprocal_if}
use Rattle.nd_ufunc.proofs.scalar.division.reciprocal.is_reciprocal.Goals as goal

pub returns-then-least-product : goal.returns-then-least-product
returns-then-least-product c = λ near.
    let a = c.args in let by = c.from-by.result in let m = c.from.result in let p = c.power_of.result in
    let most : m * by - (2 * p - by) * a.whole ≤ 2 * p = leb-true (m * by - (2 * p - by) * a.whole) (2 * p) near in
    let is : IsReciprocal a.whole p by m = reciprocal_if a.whole p by m c.if-by-power.false c.if-least-product.true most in
    subst (λ k. IsReciprocal a.whole (2 ^ a.shift) a.divisor k) c.from.ensures
    (subst (λ k. IsReciprocal a.whole (2 ^ a.shift) k m) c.from-by.ensures (subst (λ k. IsReciprocal a.whole k by m) c.power_of.ensures.value is))
