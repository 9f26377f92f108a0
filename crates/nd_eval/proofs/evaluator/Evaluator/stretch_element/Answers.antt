use Rattle.std.proofs.Common.{map, refl}
use Rattle.nd_model.specs.Indexing.ShapeChoices.{stretch_to}
use Rattle.nd_heap.specs.Values.{value_of}
use Rattle.nd_session.specs.Inputs.Values.{inputs_of}
use Rattle.nd_session.specs.Session.Live.{live}
use Rattle.nd_operation.specs.Operators.Contents.{operand_of, unused_of}
use Rattle.nd_eval.proofs.Chains.{ends_alike}
use Rattle.nd_eval.proofs.Uses.{kept_bytes}
use Rattle.nd_eval.proofs.Seeing.{alone_is, stretch_used, exits_stretching, follows_stretching}
use Rattle.nd_eval.proofs.evaluator.Evaluator.stretch_element.Goals as goal

pub stretch_element-requires : goal.stretch_element-requires
stretch_element-requires c = alone_is c.args.found.now (live c.mark_operand.new.session).bytes c.operand_in.result c.requires.alone c.operand_in.ensures

pub returns-in_err-new : goal.returns-in_err-new
returns-in_err-new c =
    let i = inputs_of c.args.self.now.inputs.now.entries in
    let v = c.args.found.now in
    let ws = c.args.shape.now in
    let x = c.operand_in.result in (
      ends_alike value_of _ _ (stretch_used i v ws _ _ _ x c.requires.alone c.in_ok-mark_operand.ensures (kept_bytes v _ _ c.in_ok-mark_operand.ensures) c.operand_in.ensures)
          (exits_stretching i (stretch_to (operand_of x) (map unused_of ws)) _ _ _ c.from_residual-in_err-new.ensures.1 c.in_err-new.ensures),
      (refl, refl),
    )

pub returns : goal.returns
returns c =
    let i = inputs_of c.args.self.now.inputs.now.entries in
    let v = c.args.found.now in
    let ws = c.args.shape.now in
    let x = c.operand_in.result in (
      ends_alike value_of _ _ (stretch_used i v ws _ _ _ x c.requires.alone c.in_ok-mark_operand.ensures (kept_bytes v _ _ c.in_ok-mark_operand.ensures) c.operand_in.ensures)
          (follows_stretching i (stretch_to (operand_of x) (map unused_of ws)) _ _ c.in_ok-new.new _ c.in_ok-new.ensures c.give.ensures.0),
      c.give.ensures.1,
    )
