use Rattle.std.proofs.Common.{map, refl, ◌∙◌}
use Rattle.nd_model.specs.Making.Operand.{AView}
use Rattle.nd_model.specs.Cells.Operation.{choose_of}
use Rattle.nd_model.specs.Indexing.Viewing.{Transposed, choose_of_first}
use Rattle.nd_heap.specs.Values.{value_of}
use Rattle.nd_session.specs.Inputs.Values.{inputs_of}
use Rattle.nd_session.specs.Session.Live.{live}
use Rattle.nd_operation.specs.Operators.Contents.{unused_of}
use Rattle.nd_eval.proofs.Calls.{view_parts}
use Rattle.nd_eval.proofs.Chains.{ends_alike, exits_making, goes_making}
use Rattle.nd_eval.proofs.evaluator.Evaluator.transpose_value.Goals as goal

pub returns-in_err-view : goal.returns-in_err-view
returns-in_err-view c =
    let i = inputs_of c.args.self.now.inputs.now.entries in
    let v = c.args.found.now in
    let ws = c.args.axes.now in (
      ends_alike value_of _ _ (view_parts i Transposed v ws (live c.args.self.now.session.now))
          (exits_making (λ g. AView g) value_of i (choose_of_first Transposed (unused_of v) (map unused_of ws)) (choose_of (value_of v)) _ _ _ c.from_residual.ensures.1 c.in_err-view.ensures),
      (refl, refl),
    )

pub returns : goal.returns
returns c =
    let i = inputs_of c.args.self.now.inputs.now.entries in
    let v = c.args.found.now in
    let ws = c.args.axes.now in
    let s = live c.args.self.now.session.now in (
      ends_alike value_of _ _
          (view_parts i Transposed v ws s
          ∙ goes_making (λ g. AView g) i (choose_of_first Transposed (unused_of v) (map unused_of ws)) (choose_of (value_of v)) s c.in_ok-view.view c.in_ok-view.ensures)
          c.seen_value.ensures.0,
      c.seen_value.ensures.1,
    )
