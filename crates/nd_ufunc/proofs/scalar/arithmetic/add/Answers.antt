use Rattle.std.proofs.Common.{◌≡◌, ℤ, FitsSigned, ap, ◌∙◌, rules}
use Rattle.std.specs.Prelude.{◌+ℤ◌}
use Rattle.std.specs.Int.{w128, int_wrap}
use Rattle.std.specs.Option.{SomeIff}
use mir.Facts.{to_z-of_z}
use Rattle.nd_ufunc.proofs.scalar.Modulo.{wrapped_again}
use Rattle.nd_ufunc.proofs.scalar.arithmetic.add.Goals as goal

pub returns : goal.returns
returns c =
    let left = c.ranges.left in let right = c.ranges.right in
    let z : ℤ = c.args.left +ℤ c.args.right in
    let fits : FitsSigned w128 c.wrapping_add.result = search rules in
    let result : FitsSigned w128 c.wrap_exact.result = search rules in
    let exact : SomeIff c.checked_add.result (FitsSigned w128 z) z = simp to_z-of_z at c.checked_add.ensures in
    let lowest : c.wrapping_add.result ≡ int_wrap w128 z = simp to_z-of_z at c.wrapping_add.ensures in
    to_z-of_z result ∙ c.wrap_exact.ensures z exact (ap (int_wrap w128) (to_z-of_z fits ∙ lowest) ∙ wrapped_again z)
