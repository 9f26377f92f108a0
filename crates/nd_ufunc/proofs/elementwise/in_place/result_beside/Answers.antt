use Rattle.std.proofs.Common.{◌≡◌, ℤ, List, length, sym, ap, ◌∙◌, subst}
use Rattle.std.specs.Prelude.{IfOk}
use Rattle.nd_model.specs.Arrays.Element.{Kind}
use Rattle.nd_model.specs.Making.Elementwise.{little}
use Rattle.nd_model.specs.Making.Operators.{Operator}
use Rattle.nd_syntax.specs.Trees.Syntax.{binary_op}
use Rattle.nd_types.specs.Kinds.{kind_of}
use Rattle.nd_ufunc.specs.Elementwise.Arguments.{argument_of, numbers_beside}
use Rattle.nd_ufunc.specs.Elementwise.Stretched.{stretched_numbers}
use Rattle.nd_ufunc.specs.Loops.Results.{binary_result, result_bytes}
use Rattle.nd_ufunc.proofs.elementwise.Mapped.{length-beside}
use Rattle.nd_ufunc.proofs.elementwise.in_place.result_beside.Goals as goal

pub result_array-requires-clause-right_count : goal.result_array-requires-clause-right_count
result_array-requires-clause-right_count c =
    let counted = c.requires.elements in
    ap (λ n. length (stretched_numbers c.in_ok-right.right n)) counted ∙ ap length c.in_ok-right.ensures.numbers ∙ length-beside (argument_of c.args.right) c.args.shape.now ∙ sym counted

pub returns-clause-results : goal.returns-clause-results
returns-clause-results c =
    let k : Kind = kind_of c.args.kind in
    let right : stretched_numbers c.in_ok-right.right c.args.count ≡ numbers_beside (argument_of c.args.right) c.args.shape.now
    = ap (stretched_numbers c.in_ok-right.right) c.requires.elements ∙ c.in_ok-right.ensures.numbers in
    subst (λ (ys : List ℤ). IfOk c.result_array.result (λ r. r.1 ≡ result_bytes (little k) (binary_result (Operator (binary_op c.args.op)) k) (stretched_numbers c.args.left.now c.args.count) ys))
    right c.result_array.ensures.results
