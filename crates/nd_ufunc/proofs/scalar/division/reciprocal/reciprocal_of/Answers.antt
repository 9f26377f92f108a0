use Rattle.std.proofs.Common.{◌≡◌, ℕ, ◌+◌, ◌-◌, ◌*◌, ◌/◌, ◌^◌, ◌<◌, ◌≤◌, refl, ap, subst, ◌∙◌, arith}
use Rattle.std.specs.Prelude.{unsigned_abs}
use mir.Facts.{to_z-of_z}
use Rattle.nd_ufunc.specs.Scalar.Division.{IsReciprocal}
use Rattle.nd_ufunc.proofs.scalar.Reciprocals.{reciprocal_is, same_power}
use Rattle.nd_ufunc.proofs.scalar.division.reciprocal.reciprocal_of.Goals as goal

pub returns-in-Ok : goal.returns-in-Ok
returns-in-Ok c = λ by is few k above below.
    let n = c.in-Ok.by in let j = c.ilog2.result in let b = c.from-by.result in let p = c.power_of-power.result in
    let same : n ≡ by = c.in-Ok.ensures.1 ∙ ap unsigned_abs (to_z-of_z c.ranges.divisor ∙ is) in
    let less : 2 ^ j < by = omega (arith, same, c.ilog2.ensures.power_le, c.if-by-gt1.true) in
    let most : by ≤ 2 * 2 ^ j = omega (arith, same, c.ilog2.ensures.next_power_gt) in
    let power : p ≡ 2 ^ k = c.power_of-power.ensures.value ∙ ap (λ i. 2 ^ i) (same_power j k by less most above below) in
    let some : 0 < b = omega (arith, c.from-by.ensures, c.if-by-gt1.true) in
    let all : 2 * p - b + b ≡ 2 * p = omega (arith, c.from-by.ensures, same, power, below) in
    let parts : ℕ = (2 * p - b) * 2 ^ 64 / b in
    let made : IsReciprocal (2 ^ 64) p b (parts + 1) = reciprocal_is (2 ^ 64) p b (2 * p - b) parts some all refl in
    subst (λ d. IsReciprocal (2 ^ 64) (2 ^ k) d (parts + 1)) (c.from-by.ensures ∙ same) (subst (λ h. IsReciprocal (2 ^ 64) h b (parts + 1)) power made)
