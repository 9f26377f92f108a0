use Rattle.std.specs.Prelude.{is_some}
use Rattle.std.proofs.Common.{refl, option_map}
use Rattle.nd_model.specs.Making.Creation.{arange}
use Rattle.nd_syntax.specs.Trees.Calls.{dtype_of}
use Rattle.nd_heap.specs.Values.{value_of}
use Rattle.nd_session.specs.Inputs.Values.{inputs_of}
use Rattle.nd_operation.specs.Operators.New.{bounds_of}
use Rattle.nd_eval.proofs.Chains.{ends_as}
use Rattle.nd_eval.proofs.Creating.{exits_new, follows_new}
use Rattle.nd_eval.proofs.Ranging.{range_parts}
use Rattle.nd_eval.proofs.evaluator.Evaluator.range_array.Goals as goal

pub returns-in_err-new : goal.returns-in_err-new
returns-in_err-new c =
    let i = inputs_of c.args.self.now.inputs.now.entries in
    let d = option_map dtype_of c.args.dtype.now in
    let a = c.args.start.now in
    let b = c.args.stop.now in
    let e = c.args.step.now in (
      ends_as value_of i _ _ _ (range_parts (is_some a) (is_some e) d a b e)
          (exits_new i (arange (is_some a) (is_some e) d (bounds_of a b e)) _ _ _ c.from_residual.ensures.1 c.in_err-new.ensures),
      (refl, refl),
    )

pub returns : goal.returns
returns c =
    let i = inputs_of c.args.self.now.inputs.now.entries in
    let d = option_map dtype_of c.args.dtype.now in
    let a = c.args.start.now in
    let b = c.args.stop.now in
    let e = c.args.step.now in (
      ends_as value_of i _ _ _ (range_parts (is_some a) (is_some e) d a b e)
          (follows_new i (arange (is_some a) (is_some e) d (bounds_of a b e)) _ _ c.in_ok-new.new _ c.in_ok-new.ensures c.give.ensures.0),
      c.give.ensures.1,
    )
