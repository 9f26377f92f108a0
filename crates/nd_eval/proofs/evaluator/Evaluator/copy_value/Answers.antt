use Rattle.std.proofs.Common.{refl, sym, ap, ◌∙◌, Ok}
use Rattle.nd_model.specs.Arrays.Content.{content_in_order}
use Rattle.nd_model.specs.Cells.Evaluation.{run}
use Rattle.nd_model.specs.Cells.Running.{Running}
use Rattle.nd_model.specs.Making.Operand.{AnArray}
use Rattle.nd_model.specs.Cells.Operation.{fresh_array}
use Rattle.nd_heap.specs.Values.{base_of, geo_of, value_of}
use Rattle.nd_session.specs.Inputs.Values.{inputs_of}
use Rattle.nd_session.specs.Session.Live.{live}
use Rattle.nd_operation.specs.Operators.Contents.{contents_over}
use Rattle.nd_eval.proofs.Chains.{ends_alike}
use Rattle.nd_eval.proofs.Creating.{exits_new, follows_new}
use Rattle.nd_eval.proofs.evaluator.Evaluator.copy_value.Goals as goal

pub returns-in_err-new : goal.returns-in_err-new
returns-in_err-new c =
    let i = inputs_of c.args.self.now.inputs.now.entries in
    let r = live c.args.self.now.session.now in
    let s = live c.mark_used.new.self in
    let g = geo_of c.args.array.now in
    let b = base_of c.args.array.now.base in
    let shape = c.args.shape.now in
    let block = c.bytes.result.now in
    let same = c.bytes.ensures ∙ ap (λ (q : Running). q.bytes b) c.in_ok-mark_used.ensures.after in (
      ends_alike value_of _ _ (λ j. run i (fresh_array g.element shape (content_in_order shape (contents_over g (sym same j)))) (sym c.in_ok-mark_used.ensures.after j))
          (exits_new i (Ok (AnArray g.element shape (content_in_order shape (contents_over g block)))) _ _ _ c.from_residual-in_err-new.ensures.1 c.in_err-new.ensures),
      (refl, refl),
    )

pub returns : goal.returns
returns c =
    let i = inputs_of c.args.self.now.inputs.now.entries in
    let r = live c.args.self.now.session.now in
    let s = live c.mark_used.new.self in
    let g = geo_of c.args.array.now in
    let b = base_of c.args.array.now.base in
    let shape = c.args.shape.now in
    let block = c.bytes.result.now in
    let same = c.bytes.ensures ∙ ap (λ (q : Running). q.bytes b) c.in_ok-mark_used.ensures.after in (
      ends_alike value_of _ _ (λ j. run i (fresh_array g.element shape (content_in_order shape (contents_over g (sym same j)))) (sym c.in_ok-mark_used.ensures.after j))
          (follows_new i (Ok (AnArray g.element shape (content_in_order shape (contents_over g block)))) _ _ c.in_ok-new.new _ c.in_ok-new.ensures c.give.ensures.0),
      c.give.ensures.1,
    )
