use Rattle.std.proofs.Common.{refl}
use Rattle.nd_model.specs.Cells.Evaluation.{◌>>=◌, decide}
use Rattle.nd_model.specs.Making.Operand.{Operand}
use Rattle.nd_model.specs.Cells.Operation.{give}
use Rattle.nd_heap.specs.Values.{value_of}
use Rattle.nd_session.specs.Inputs.Values.{inputs_of}
use Rattle.nd_operation.specs.Operators.Contents.{operand_of}
use Rattle.nd_eval.specs.Reducing.Folds.{made_of_fold}
use Rattle.nd_eval.proofs.Creating.{exits_new, follows_new}
use Rattle.nd_eval.proofs.Uses.{kept_bytes, kept_next, follows_use}
use Rattle.nd_eval.proofs.evaluator.Evaluator.fold_value.Goals as goal

pub give-requires : goal.give-requires
give-requires c =
    let once = kept_next c.args.found.now _ _ c.in_ok-mark_operand.ensures in
    rw once c.requires.room

pub returns-in_err-new : goal.returns-in_err-new
returns-in_err-new c =
    let i = inputs_of c.args.self.now.inputs.now.entries in
    let v = c.args.found.now in
    let f = λ (o : Operand). made_of_fold c.args.folding o c.args.axis in (
      follows_use value_of i v (λ o. decide (f o) >>= give) _ _ _ _ c.operand_in.result _ c.in_ok-mark_operand.ensures
          (kept_bytes v _ _ c.in_ok-mark_operand.ensures) c.operand_in.ensures
          (exits_new i (f (operand_of c.operand_in.result)) _ _ _ c.from_residual-in_err-new.ensures.1 c.in_err-new.ensures),
      (refl, refl),
    )

pub returns : goal.returns
returns c =
    let i = inputs_of c.args.self.now.inputs.now.entries in
    let v = c.args.found.now in
    let f = λ (o : Operand). made_of_fold c.args.folding o c.args.axis in (
      follows_use value_of i v (λ o. decide (f o) >>= give) _ _ _ _ c.operand_in.result _ c.in_ok-mark_operand.ensures
          (kept_bytes v _ _ c.in_ok-mark_operand.ensures) c.operand_in.ensures
          (follows_new i (f (operand_of c.operand_in.result)) _ _ c.in_ok-new.new _ c.in_ok-new.ensures c.give.ensures.0),
      c.give.ensures.1,
    )
