use Rattle.std.proofs.Common.{◌≡◌, ◌∙◌, ℤ, rules, to_z, of_z, subst, sym, ap}
use Rattle.std.specs.Int.{w128}
use Rattle.nd_model.specs.Grammar.Syntax.{LeftShift, Multiply}
use Rattle.nd_model.specs.Making.Elementwise.{little}
use Rattle.nd_model.specs.Making.Operators.{Operator}
use Rattle.nd_types.specs.Kinds.{kind_of}
use Rattle.nd_ufunc.specs.Elementwise.Stretched.{stretched_numbers}
use Rattle.nd_ufunc.specs.Loops.Results.{binary_result, result_bytes}
use Rattle.nd_ufunc.proofs.elementwise.Shifted.{alike_beside}
use Rattle.nd_ufunc.proofs.elementwise.results.shifts_up.Goals as goal

pub returns-in_ok-made-in-Some : goal.returns-in_ok-made-in-Some
returns-in_ok-made-in-Some c =
    let to = kind_of c.args.to in let count = c.args.count in
    let numbers = stretched_numbers c.args.left.now count in let shift = binary_result (Operator LeftShift) to in
    let same : to_z w128 (of_z w128 c.in-Number.number) ≡ c.in-Number.number = search rules in
    let factor : to_z w128 (of_z w128 c.in-Some.factor) ≡ c.in-Some.factor = search rules in
    let times = binary_result (Operator Multiply) to in
    c.in_ok-made-in-Some.ensures
    ∙ alike_beside (little to) times shift (to_z w128 (of_z w128 c.in-Some.factor)) c.in-Number.number (λ x. ap (times x) factor ∙ c.in-Some.ensures x ∙ ap (shift x) same) count numbers
    ∙ ap (λ right. result_bytes (little to) shift numbers (stretched_numbers right count)) (sym c.in-Number.is)
