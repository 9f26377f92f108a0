use Rattle.std.proofs.Common.{pos, Ok, ap, option_map, ◌∙◌}
use Rattle.nd_model.specs.Making.Creation.{zero_content, fill_content}
use Rattle.nd_model.specs.Arrays.Content.{Num}
use Rattle.nd_model.specs.Arrays.View.{One}
use Rattle.nd_syntax.specs.Trees.Calls.{dtype_of, fill_of}
use Rattle.nd_types.specs.Types.{type_of}
use Rattle.nd_operation.proofs.operators.Creating.{new_refused, filled_over}
use Rattle.nd_operation.proofs.operators.creation.filled_array.Goals as goal

pub returns-in_err-check_limits-in-Zeros : goal.returns-in_err-check_limits-in-Zeros
returns-in_err-check_limits-in-Zeros c =
    let t = type_of c.in_ok-elem.elem in
    let limits = rw c.size.ensures.value at c.in_err-check_limits-in-Zeros.ensures in
    new_refused _ c.in_err-check_limits-in-Zeros.field-0.0 _ c.from_residual-in_err-check_limits-in-Zeros.ensures.1
    (filled_over (fill_of c.args.fill) (dtype_of c.in-Some.dtype) _ c.args.shape.now t (zero_content t) _ (ap (option_map dtype_of) c.in-Some.is) c.in_ok-elem.ensures
    (ap (λ f. fill_content (fill_of f) t) c.in-Zeros.is) limits)

pub returns-in_err-check_limits-in-Ones : goal.returns-in_err-check_limits-in-Ones
returns-in_err-check_limits-in-Ones c =
    let e = c.in-One.elem in
    let limits = rw c.size-in-Ones.ensures.value at c.in_err-check_limits-in-Ones.ensures in
    new_refused _ c.in_err-check_limits-in-Ones.field-0.0 _ c.from_residual-in_err-check_limits-in-Ones.ensures.1
    (filled_over (fill_of c.args.fill) (dtype_of c.in-Some.dtype) _ c.args.shape.now (One e) (Num (pos 1)) _ (ap (option_map dtype_of) c.in-Some.is)
    (c.in_ok-elem.ensures ∙ ap (λ t. Ok (type_of t)) c.in-One.is) (ap (λ f. fill_content (fill_of f) (One e)) c.in-Ones.is) limits)
