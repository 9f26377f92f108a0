use Rattle.std.proofs.Common.{map, refl, ap, ◌∙◌}
use Rattle.nd_model.specs.Cells.Evaluation.{run}
use Rattle.nd_model.specs.Making.Operand.{AView}
use Rattle.nd_model.specs.Cells.Operation as operation
use Rattle.nd_model.specs.Cells.Operation.{choose_of}
use Rattle.nd_model.specs.Indexing.ShapeChoices.{stretch_to}
use Rattle.nd_model.specs.Cells.Evaluation.{Gives}
use Rattle.nd_model.specs.Arrays.Value as model
use Rattle.nd_heap.specs.declared.value.Value.TheVariants.{Array}
use Rattle.nd_heap.specs.Values.{base_of, value_of}
use Rattle.nd_session.specs.Inputs.Values.{inputs_of}
use Rattle.nd_session.specs.Session.Live.{live}
use Rattle.nd_operation.specs.Operators.Contents.{unused_of}
use Rattle.nd_eval.proofs.Chains.{ends_alike, exits_making, goes_making}
use Rattle.nd_eval.proofs.Seeing.{stretch_array_parts}
use Rattle.nd_eval.proofs.evaluator.Evaluator.stretch_array.Goals as goal

pub returns-in_err-view : goal.returns-in_err-view
returns-in_err-view c =
    let i = inputs_of c.args.self.now.inputs.now.entries in
    let a = c.args.array.now in
    let ws = c.args.shape.now in (
      ends_alike value_of _ _ (stretch_array_parts i a ws (live c.args.self.now.session.now))
          (exits_making (λ g. AView g) value_of i (stretch_to (unused_of (Array a)) (map unused_of ws)) (choose_of (value_of (Array a))) _ _ _ c.from_residual.ensures.1 c.in_err-view.ensures),
      (refl, refl),
    )

pub returns : goal.returns
returns c =
    let i = inputs_of c.args.self.now.inputs.now.entries in
    let a = c.args.array.now in
    let ws = c.args.shape.now in
    let s = live c.args.self.now.session.now in
    let view = c.in_ok-view.view in (
      stretch_array_parts i a ws s
          ∙ goes_making (λ g. AView g) i (stretch_to (unused_of (Array a)) (map unused_of ws)) (choose_of (value_of (Array a))) s view c.in_ok-view.ensures
          ∙ ap (λ L. run i (operation.unless_too_large L (Gives (model.Array (base_of a.base) view))) s) c.shape-shape.ensures.limits,
      (refl, refl),
    )
