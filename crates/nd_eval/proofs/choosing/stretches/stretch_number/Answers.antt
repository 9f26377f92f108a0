use Rattle.std.proofs.Common.{rules, ap, ◌∙◌, arith, Ok, Result}
use Rattle.std.proofs.lemmas.Int.{to_z-of_z}
use mir.Val.{SFits}
use mir.Syntax.{w128}
use Rattle.nd_model.specs.Arrays.Broadcast.{in_limits}
use Rattle.nd_model.specs.Arrays.Content.{Num, array_bytes}
use Rattle.nd_model.specs.Making.Creation.{little}
use Rattle.nd_model.specs.Arrays.Element.{Kind, size_of}
use Rattle.nd_model.specs.Cells.Fault.{Fault}
use Rattle.nd_model.specs.Making.Operand.{Plain, Stretched, number_of}
use Rattle.nd_model.specs.Cells.Refusing as refusing
use Rattle.nd_model.specs.Indexing.ShapeChoices.{stretch_operand}
use Rattle.nd_operation.specs.Refusals.Faults.{fault_of}
use Rattle.nd_model.specs.Arrays.View.{One}
use Rattle.nd_model.specs.Arrays.Strides.{limit_fault}
use Rattle.nd_types.specs.Kinds.{kind_of}
use Rattle.nd_operation.specs.Operators.Contents.{num_of}
use Rattle.nd_operation.proofs.operators.Creating.{over, within}
use Rattle.nd_eval.proofs.choosing.Stretching.{number_stretched, stretched_refused, alone_in_limits}
use Rattle.nd_eval.proofs.choosing.stretches.stretch_number.Goals as goal

pub returns-in_err-check_limits : goal.returns-in_err-check_limits
returns-in_err-check_limits c =
    let n = num_of c.args.number in
    let shape = c.args.shape.now in
    let e = c.little-elem.result in
    let f = c.in_err-check_limits.field-0.0 in
    stretched_refused (stretch_operand (Plain n) shape) f c.from_residual-in_err-check_limits.result c.from_residual-in_err-check_limits.ensures.1
    (ap (λ (k : Result Kind Fault). refusing.◌>>=◌ k (λ k. in_limits (One (little k)) shape (Ok (Stretched (One (little k)) (Num (number_of n)) shape)))) c.in_ok-array_kind.ensures
    ∙ over (limit_fault (size_of (kind_of c.in_ok-array_kind.field-0)) shape) (Ok (Stretched (One (little (kind_of c.in_ok-array_kind.field-0))) (Num (number_of n)) shape)) (fault_of f)
    (rw (c.size.ensures.value, c.little-elem.ensures) at c.in_err-check_limits.ensures))

pub returns-in-Ok-stretch : goal.returns-in-Ok-stretch
returns-in-Ok-stretch c =
    let e = c.little-elem.result in
    let fits : SFits w128 c.whole_number.result = search rules in
    number_stretched (num_of c.args.number) (kind_of c.in_ok-array_kind.field-0) e c.args.shape.now c.in_ok-element.element c.in-Ok-stretch.view c.in-Ok.block
    c.in_ok-array_kind.ensures c.little-elem.ensures
    (within (limit_fault _ c.args.shape.now) (rw c.size.ensures.value at c.in_ok-check_limits.ensures))
    (alone_in_limits _ (omega (arith, c.size.ensures.value, c.size.ensures.range)))
    c.in_ok-element.ensures (c.in-Ok.ensures ∙ ap (λ z. array_bytes (One e) c.in_ok-element.element.shape (λ t. Num z)) (to_z-of_z w128 c.whole_number.result fits ∙ c.whole_number.ensures)) c.in-Ok-stretch.ensures
