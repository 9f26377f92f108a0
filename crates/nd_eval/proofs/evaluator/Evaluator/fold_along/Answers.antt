use Rattle.std.proofs.Common.{◌∙◌, refl}
use Rattle.nd_model.specs.Cells.Evaluation.{◌>>=◌, decide}
use Rattle.nd_model.specs.Cells.Meaning.{along}
use Rattle.nd_model.specs.Making.Operand.{Whole}
use Rattle.nd_model.specs.Cells.Operation.{give, use_operand}
use Rattle.nd_heap.specs.Values.{value_of}
use Rattle.nd_session.specs.Inputs.Values.{inputs_of}
use Rattle.nd_session.specs.Session.Live.{live}
use Rattle.nd_operation.specs.Operators.Contents.{operand_of}
use Rattle.nd_eval.specs.Reducing.Folds.{made_of_fold}
use Rattle.nd_eval.proofs.Creating.{exits_new, follows_new}
use Rattle.nd_eval.proofs.Uses.{kept_bytes, kept_next, follows_use}
use Rattle.nd_eval.proofs.Held.{held_marked}
use Rattle.nd_eval.proofs.evaluator.Evaluator.fold_along.Goals as goal

pub operand_in-operand-requires : goal.operand_in-operand-requires
operand_in-operand-requires c =
    let v = c.args.found.now in
    held_marked c.args.axis.now v (live c.mark_operand.new.session) (live c.mark_operand-2.new.session) c.in_ok-mark_operand-2.ensures
    (held_marked v v (live c.args.self.now.session.now) (live c.mark_operand.new.session) c.in_ok-mark_operand.ensures c.requires.found)

pub operand_in-place-requires : goal.operand_in-place-requires
operand_in-place-requires c =
    let w = c.args.axis.now in
    held_marked w w (live c.mark_operand.new.session) (live c.mark_operand-2.new.session) c.in_ok-mark_operand-2.ensures
    (held_marked c.args.found.now w (live c.args.self.now.session.now) (live c.mark_operand.new.session) c.in_ok-mark_operand.ensures c.requires.axis)

pub give-requires : goal.give-requires
give-requires c =
    let once = kept_next c.args.found.now _ _ c.in_ok-mark_operand.ensures in
    let again = kept_next c.args.axis.now _ _ c.in_ok-mark_operand-2.ensures in
    rw (again, once) c.requires.room

pub returns-in_err-new : goal.returns-in_err-new
returns-in_err-new c =
    let i = inputs_of c.args.self.now.inputs.now.entries in
    let v = c.args.found.now in
    let w = c.args.axis.now in
    let f = along (made_of_fold c.args.folding) in
    let o = operand_of c.operand_in-operand.result in
    let once = kept_bytes v _ _ c.in_ok-mark_operand.ensures in
    let again = kept_bytes w _ _ c.in_ok-mark_operand-2.ensures in (
      follows_use value_of i v (λ o. use_operand Whole (value_of w) >>= λ p. decide (f o p) >>= give) _ _ _ _ c.operand_in-operand.result _ c.in_ok-mark_operand.ensures (again ∙ once) c.operand_in-operand.ensures
          (follows_use value_of i w (λ p. decide (f o p) >>= give) _ _ _ _ c.operand_in-place.result _ c.in_ok-mark_operand-2.ensures again c.operand_in-place.ensures
          (exits_new i (f o (operand_of c.operand_in-place.result)) _ _ _ c.from_residual-in_err-new.ensures.1 c.in_err-new.ensures)),
      (refl, refl),
    )

pub returns : goal.returns
returns c =
    let i = inputs_of c.args.self.now.inputs.now.entries in
    let v = c.args.found.now in
    let w = c.args.axis.now in
    let f = along (made_of_fold c.args.folding) in
    let o = operand_of c.operand_in-operand.result in
    let once = kept_bytes v _ _ c.in_ok-mark_operand.ensures in
    let again = kept_bytes w _ _ c.in_ok-mark_operand-2.ensures in (
      follows_use value_of i v (λ o. use_operand Whole (value_of w) >>= λ p. decide (f o p) >>= give) _ _ _ _ c.operand_in-operand.result _ c.in_ok-mark_operand.ensures (again ∙ once) c.operand_in-operand.ensures
          (follows_use value_of i w (λ p. decide (f o p) >>= give) _ _ _ _ c.operand_in-place.result _ c.in_ok-mark_operand-2.ensures again c.operand_in-place.ensures
          (follows_new i (f o (operand_of c.operand_in-place.result)) _ _ c.in_ok-new.new _ c.in_ok-new.ensures c.give.ensures.0)),
      c.give.ensures.1,
    )
