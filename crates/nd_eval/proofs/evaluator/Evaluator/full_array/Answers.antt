use Rattle.std.proofs.Common.{◌∙◌, ap, arith, map, option_map, refl}
use Rattle.nd_model.specs.Cells.Running.{Running}
use Rattle.nd_model.specs.Making.Creation.{full_of}
use Rattle.nd_syntax.specs.Trees.Calls.{dtype_of}
use Rattle.nd_session.specs.Inputs.Values.{inputs_of}
use Rattle.nd_session.specs.Session.Live.{live}
use Rattle.nd_operation.specs.Operators.Contents.{operand_of, unused_of}
use Rattle.nd_eval.proofs.Calls.{full_follows}
use Rattle.nd_eval.proofs.Creating.{exits_new, follows_new}
use Rattle.nd_eval.proofs.Held.{held_marked, held_past}
use Rattle.nd_eval.proofs.Uses.{all_marked_bytes, all_marked_next, kept_bytes, kept_next}
use Rattle.nd_eval.specs.Uses.{marked}
use Rattle.nd_eval.proofs.evaluator.Evaluator.full_array.Goals as goal

pub operand_in-requires : goal.operand_in-requires
operand_in-requires c =
    let v = c.args.value.now in
    let s = live c.mark_operands.new.session in
    held_marked v v s (live c.mark_operand.new.session) c.in_ok-mark_operand.ensures
    (held_past c.args.shape.now v (live c.args.self.now.session.now) s c.in_ok-mark_operands.ensures c.requires.held)

pub returns-in_err-new : goal.returns-in_err-new
returns-in_err-new c =
    let i = inputs_of c.args.self.now.inputs.now.entries in
    let d = option_map dtype_of c.args.dtype.now in
    let vs = c.args.shape.now in
    let v = c.args.value.now in
    let r = live c.args.self.now.session.now in
    let x = c.operand_in.result in
    let marks = c.in_ok-mark_operands.ensures in
    let kept = kept_bytes v _ _ c.in_ok-mark_operand.ensures ∙ ap (λ (q : Running). q.bytes) marks ∙ all_marked_bytes vs r in (
      full_follows i d vs v r _ _ _ x _ (c.in_ok-mark_operand.ensures ∙ ap (marked v) marks) kept c.operand_in.ensures
          (exits_new i (full_of d (map unused_of vs) (operand_of x)) _ _ _ c.from_residual-in_err-new.ensures.1 c.in_err-new.ensures),
      (refl, refl),
    )

pub give-requires : goal.give-requires
give-requires c =
    let r = live c.args.self.now.session.now in
    let room = c.requires.room in
    let marks = ap (λ (q : Running). q.next) c.in_ok-mark_operands.ensures ∙ all_marked_next c.args.shape.now r in
    let none = kept_next c.args.value.now _ _ c.in_ok-mark_operand.ensures in
    omega arith

pub returns : goal.returns
returns c =
    let i = inputs_of c.args.self.now.inputs.now.entries in
    let d = option_map dtype_of c.args.dtype.now in
    let vs = c.args.shape.now in
    let v = c.args.value.now in
    let r = live c.args.self.now.session.now in
    let x = c.operand_in.result in
    let marks = c.in_ok-mark_operands.ensures in
    let kept = kept_bytes v _ _ c.in_ok-mark_operand.ensures ∙ ap (λ (q : Running). q.bytes) marks ∙ all_marked_bytes vs r in (
      full_follows i d vs v r _ _ _ x _ (c.in_ok-mark_operand.ensures ∙ ap (marked v) marks) kept c.operand_in.ensures
          (follows_new i (full_of d (map unused_of vs) (operand_of x)) _ _ c.in_ok-new.new _ c.in_ok-new.ensures c.give.ensures.0),
      c.give.ensures.1,
    )
