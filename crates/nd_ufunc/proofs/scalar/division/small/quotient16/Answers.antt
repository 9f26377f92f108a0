use Rattle.std.proofs.Common.{◌≡◌, ◌+◌, ◌-◌, ◌/◌, ◌^◌, ◌<◌, ap, ◌∙◌, arith}
use Rattle.std.proofs.lemmas.Nat.{pow_pos}
use Rattle.nd_ufunc.proofs.scalar.Reciprocals.{quotient_is}
use Rattle.nd_ufunc.proofs.scalar.division.small.quotient16.Goals as goal

pub returns : goal.returns
returns c =
    let a = c.args in let high = c.high16-high.result in
    let few : a.number < 2 ^ 16 = omega (arith, c.ranges.number.fits) in
    let half : (a.number - high) / 2 + high ≡ (high + a.number) / 2 = omega (arith, c.high16-high.ensures.less) in
    ap (λ n. n / 2 ^ a.shift) half
    ∙ quotient_is (2 ^ 16) (2 ^ a.shift) a.divisor a.parts a.number high c.requires.reciprocal c.requires.divisor (pow_pos a.shift) few c.high16-high.ensures.value
