use Rattle.std.proofs.Common.{◌≡◌, Ok, Err, false, sym, ap, subst, ◌∙◌, rules}
use Rattle.nd_model.specs.Making.Elementwise.{numbers_made}
use Rattle.nd_model.specs.Cells.Evaluation.{◌>>=◌, decide}
use Rattle.nd_model.specs.Making.Operand.{Plain, Scalar}
use Rattle.nd_model.specs.Cells.Operation.{give}
use Rattle.nd_model.specs.Making.Reductions.{reduced_numbers}
use Rattle.nd_types.specs.Kinds.{kind_of}
use Rattle.nd_syntax.specs.Trees.Calls.{reduction_of}
use Rattle.nd_reduce.specs.Axes.Faults.{Makes}
use Rattle.nd_operation.specs.Operators.Contents.{number_made}
use Rattle.nd_operation.specs.Operators.New.{MakesNew}
use Rattle.nd_operation.specs.declared.operators.operand.New.TheVariants.{Number}
use Rattle.nd_eval.proofs.reducing.Made.{not_reduced, number_gives, keeps_nothing}
use Rattle.nd_eval.proofs.reducing.numbers.reduce_scalar.Goals as goal

pub returns-in-Ok : goal.returns-in-Ok
returns-in-Ok c =
    let h : numbers_made (reduced_numbers (reduction_of c.args.reduction) c.args.axis false (Plain (Scalar (kind_of c.args.kind) c.args.number))) ≡ Ok (number_made c.in-Ok.number) = search rules in
    subst (λ n. MakesNew (Ok (Number c.in-Ok.number)) (numbers_made n)) (sym (keeps_nothing (reduction_of c.args.reduction) c.args.axis c.args._keepdims (kind_of c.args.kind) c.args.number))
    (ap (λ m. decide m >>= give) h ∙ number_gives c.in-Ok.number)

pub returns-in-Err : goal.returns-in-Err
returns-in-Err c =
    let made = numbers_made (reduced_numbers (reduction_of c.args.reduction) c.args.axis false (Plain (Scalar (kind_of c.args.kind) c.args.number))) in
    let h : Makes number_made (Err c.in-Err.fault) made = search rules in
    subst (λ n. MakesNew (Err c.stop_of.result) (numbers_made n)) (sym (keeps_nothing (reduction_of c.args.reduction) c.args.axis c.args._keepdims (kind_of c.args.kind) c.args.number))
    (not_reduced number_made made c.in-Err.fault c.stop_of.result c.stop_of.ensures h)
