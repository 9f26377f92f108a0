use Rattle.std.proofs.Common.{Bor, map, refl, ap, ◌∙◌}
use Rattle.nd_model.specs.Cells.Evaluation.{run}
use Rattle.nd_model.specs.Cells.Operation.{choose_of}
use Rattle.nd_model.specs.Indexing.Viewing.{Reshaped, choose_of_first}
use Rattle.nd_heap.specs.declared.value.Array.{Array}
use Rattle.nd_heap.specs.declared.value.Value.TheVariants as values
use Rattle.nd_heap.specs.Values.{geo_of, value_of}
use Rattle.nd_session.specs.Inputs.Values.{inputs_of}
use Rattle.nd_session.specs.Session.Live.{live}
use Rattle.nd_operation.specs.Operators.Contents.{unused_of}
use Rattle.nd_eval.specs.Choosing.Shapes.{choice_of}
use Rattle.nd_eval.proofs.Calls.{view_parts}
use Rattle.nd_eval.proofs.Chains.{ends_alike, exits_making, goes_making}
use Rattle.nd_eval.proofs.evaluator.Evaluator.reshape_value.Goals as goal

pub returns-in_err-array : goal.returns-in_err-array
returns-in_err-array c =
    let i = inputs_of c.args.self.now.inputs.now.entries in
    let v = c.args.found.now in
    let ws = c.args.lengths.now in (
      ends_alike value_of _ _ (view_parts i Reshaped v ws (live c.args.self.now.session.now))
          (exits_making (λ (p : Bor Array × _). choice_of (geo_of p.0.now) p.1) value_of i (choose_of_first Reshaped (unused_of v) (map unused_of ws)) (choose_of (value_of v)) _ _ _ c.from_residual.ensures.1 c.in_err-array.ensures.choice),
      (refl, refl),
    )

pub returns-in-View : goal.returns-in-View
returns-in-View c =
    let i = inputs_of c.args.self.now.inputs.now.entries in
    let v = c.args.found.now in
    let ws = c.args.lengths.now in
    let s = live c.args.self.now.session.now in
    let a = c.in_ok-array.array in (
      ends_alike value_of _ _
          (view_parts i Reshaped v ws s
          ∙ goes_making (λ (p : Bor Array × _). choice_of (geo_of p.0.now) p.1) i (choose_of_first Reshaped (unused_of v) (map unused_of ws)) (choose_of (value_of v)) s (a, c.in_ok-array.new) c.in_ok-array.ensures.choice
          ∙ ap (λ n. run i (choose_of (value_of v) (choice_of (geo_of a.now) n)) s) c.in-View.is)
          c.seen_value.ensures.0,
      c.seen_value.ensures.1,
    )

pub returns-in-Copy : goal.returns-in-Copy
returns-in-Copy c =
    let i = inputs_of c.args.self.now.inputs.now.entries in
    let v = c.args.found.now in
    let ws = c.args.lengths.now in
    let s = live c.args.self.now.session.now in
    let a = c.in_ok-array.array in (
      ends_alike value_of _ _
          (view_parts i Reshaped v ws s
          ∙ goes_making (λ (p : Bor Array × _). choice_of (geo_of p.0.now) p.1) i (choose_of_first Reshaped (unused_of v) (map unused_of ws)) (choose_of (value_of v)) s (a, c.in_ok-array.new) c.in_ok-array.ensures.choice
          ∙ ap (λ w. run i (choose_of (value_of w) (choice_of (geo_of a.now) c.in_ok-array.new)) s) c.in_ok-array.ensures.array
          ∙ ap (λ n. run i (choose_of (value_of (values.Array a.now)) (choice_of (geo_of a.now) n)) s) c.in-Copy.is)
          (rw c.deref.ensures at c.copy_value.ensures.0),
      c.copy_value.ensures.1,
    )
