use Rattle.std.proofs.Common.{◌≡◌, ℤ, FitsSigned, ap, ◌∙◌, arith, rules}
use Rattle.std.specs.Prelude.{pos, neg_ℤ, ◌-ℤ◌}
use Rattle.std.proofs.lemmas.Int.{ints}
use Rattle.std.specs.Int.{w128, int_wrap}
use Rattle.std.specs.Option.{SomeIff}
use mir.Facts.{to_z-of_z}
use Rattle.nd_ufunc.proofs.scalar.Modulo.{wrapped_again}
use Rattle.nd_ufunc.proofs.scalar.arithmetic.negative.Goals as goal

pub returns : goal.returns
returns c =
    let number = c.ranges.number in
    let z : ℤ = neg_ℤ c.args.number in
    let fits : FitsSigned w128 c.wrapping_subtract.result = search rules in
    let result : FitsSigned w128 c.wrap_exact.result = search rules in
    let exact : SomeIff c.checked_neg.result (FitsSigned w128 z) z = simp to_z-of_z at c.checked_neg.ensures in
    let other : pos 0 -ℤ c.args.number ≡ z = omega (arith, ints) in
    let below : c.wrapping_subtract.result ≡ int_wrap w128 (pos 0 -ℤ c.args.number) = simp to_z-of_z at c.wrapping_subtract.ensures in
    let lowest : c.wrapping_subtract.result ≡ int_wrap w128 z = below ∙ ap (int_wrap w128) other in
    to_z-of_z result ∙ c.wrap_exact.ensures z exact (ap (int_wrap w128) (to_z-of_z fits ∙ lowest) ∙ wrapped_again z)
