use Rattle.std.proofs.Common.{◌≡◌, Result, Ok, None, FitsSigned, option_map, sym, ap, ap₂, subst, ◌∙◌, rules}
use Rattle.std.specs.Int.{w128}
use mir.Facts.{to_z-of_z}
use Rattle.nd_model.specs.Arrays.Content.{Num}
use Rattle.nd_model.specs.Arrays.Element.{size_of, wrap}
use Rattle.nd_model.specs.Cells.Fault.{Fault}
use Rattle.nd_model.specs.Making.Operand.{Made, number_of}
use Rattle.nd_model.specs.Arrays.Strides.{limit_fault}
use Rattle.nd_model.specs.Making.Creation.{misfit, uniform}
use Rattle.nd_model.specs.Arrays.View.{One}
use Rattle.nd_syntax.specs.Trees.Calls.{dtype_of}
use Rattle.nd_operation.specs.Operators.Contents.{num_of}
use Rattle.nd_operation.specs.Refusals.Faults.{fault_of}
use Rattle.nd_operation.specs.Operators.New.{MakesNew}
use Rattle.nd_operation.proofs.operators.Creating.{new_refused, within}
use Rattle.nd_operation.proofs.operators.Converting.{full_number, full_over, misfit_over, misfit_within}
use Rattle.nd_operation.proofs.operators.conversion.number_array.Goals as goal

pub returns-in_err-check_fit : goal.returns-in_err-check_fit
returns-in_err-check_fit c =
    let e = c.in_ok-elem.elem in
    let n = num_of c.args.number in
    let shape = c.args.shape.now in
    let d = option_map dtype_of c.args.dtype.now in
    let f = c.in_err-check_fit.field-0.0 in
    let fine : limit_fault (size_of e.kind) shape ≡ None = within _ (rw c.size.ensures.value at c.in_ok-check_limits.ensures) in
    new_refused _ f _ c.from_residual-in_err-check_fit.ensures.1
    (full_number d shape n e c.in_ok-elem.ensures fine
    ∙ misfit_over (misfit e.kind n) (fault_of f) (tt {0}) (rw c.kind.ensures at c.in_err-check_fit.ensures) (Ok (uniform (One e) shape (Num (wrap e.kind (number_of n))))))

pub returns : goal.returns
returns c =
    let e = c.in_ok-elem.elem in
    let n = num_of c.args.number in
    let shape = c.args.shape.now in
    let d = option_map dtype_of c.args.dtype.now in
    let fine : limit_fault (size_of e.kind) shape ≡ None = within _ (rw c.size.ensures.value at c.in_ok-check_limits.ensures) in
    let wrapped : FitsSigned w128 c.wrap.result = search rules in
    let in_range : FitsSigned w128 c.whole_number.result = search rules in
    let number = to_z-of_z wrapped ∙ c.wrap.ensures.value ∙ ap₂ wrap c.kind-2.ensures (to_z-of_z in_range ∙ c.whole_number.ensures) in
    subst (λ (m : Result Made Fault). MakesNew c.copies.result m)
    (ap (λ z. Ok (uniform (One e) shape (Num z))) number
    ∙ sym (full_number d shape n e c.in_ok-elem.ensures fine
    ∙ misfit_within (misfit e.kind n) (tt {0}) (tt {0}) (rw c.kind.ensures at c.in_ok-check_fit.ensures) (Ok (uniform (One e) shape (Num (wrap e.kind (number_of n)))))))
    c.copies.ensures

pub returns-in_err-check_limits : goal.returns-in_err-check_limits
returns-in_err-check_limits c =
    let f = c.in_err-check_limits.field-0.0 in
    new_refused _ f _ c.from_residual-in_err-check_limits.ensures.1
    (full_over (option_map dtype_of c.args.dtype.now) c.args.shape.now (num_of c.args.number) c.in_ok-elem.elem (fault_of f) c.in_ok-elem.ensures (rw c.size.ensures.value at c.in_err-check_limits.ensures))
