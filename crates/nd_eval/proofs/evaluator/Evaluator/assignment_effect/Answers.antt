use Rattle.nd_eval.specs.Parts.{target_assignment}
use Rattle.nd_model.specs.Cells.Evaluation.{run}
use Rattle.std.proofs.Common.{arith, ap, sym, ◌∙◌, Ok, Err}
use Rattle.nd_model.specs.Cells.Meaning as meaning
use Rattle.nd_syntax.specs.Trees.Syntax.{expr_of, index_of}
use Rattle.nd_heap.specs.Values.{value_of}
use Rattle.nd_session.specs.Inputs.Values.{inputs_of}
use Rattle.nd_session.specs.Session.Live.{live}
use Rattle.nd_eval.specs.Effects.{effect_of, stored_at}
use Rattle.nd_eval.proofs.Bounds.{next_value}
use Rattle.nd_eval.proofs.Chains.{exits, follows, goes, refused_alike}
use Rattle.nd_eval.proofs.Turns.{stays_on}
use Rattle.nd_eval.proofs.Held.{value_held}
use Rattle.nd_eval.proofs.evaluator.Evaluator.assignment_effect.Goals as goal

pub returns-in_err-written-clause-effect : goal.returns-in_err-written-clause-effect
returns-in_err-written-clause-effect c = (
  exits value_of _ (inputs_of c.args.self.now.inputs.now.entries) (meaning.value (expr_of c.args.expr.now)) _ _ _ _ _
      c.from_residual.ensures.1 c.in_err-written.ensures.0,
  c.in_err-written.ensures.1,
)

pub place_of-requires-clause-value : goal.place_of-requires-clause-value
place_of-requires-clause-value c =
    value_held (inputs_of c.args.self.now.inputs.now.entries) (expr_of c.args.expr.now) _ _ c.in_ok-written.written c.in_ok-written.ensures.0 c.soundness.ensures

pub place_of-requires-clause-room : goal.place_of-requires-clause-room
place_of-requires-clause-room c =
    let room = c.requires in
    let made = next_value (inputs_of c.args.self.now.inputs.now.entries) (expr_of c.args.expr.now) _ _ _ c.in_ok-written.ensures.0 in
    omega arith

pub returns-in-Err-clause-effect : goal.returns-in-Err-clause-effect
returns-in-Err-clause-effect c =
    let i = inputs_of c.args.self.now.inputs.now.entries in
    let e = expr_of c.args.target.now in
    let x = index_of c.args.index.now in
    let v = c.in_ok-written.written in
    let s = live c.value.new.self.session.now in
    let u = live c.place_of.new.self.session.now in (
      follows value_of (effect_of u.bytes) i (meaning.value (expr_of c.args.expr.now)) (λ v. target_assignment v e x) (live c.args.self.now.session.now) s u v (Err c.in-Err.stop) c.in_ok-written.ensures.0
          (refused_alike (stored_at u.bytes v) (effect_of u.bytes) c.in-Err.stop u (run i (target_assignment (value_of v) e x) s) (rw c.in_ok-written.ensures.1.1 at c.in-Err.ensures.effect.0)),
      stays_on c.in_ok-written.ensures.1 c.in-Err.ensures.effect.1,
    )

pub returns-in-Ok-clause-effect : goal.returns-in-Ok-clause-effect
returns-in-Ok-clause-effect c =
    let i = inputs_of c.args.self.now.inputs.now.entries in
    let e = expr_of c.args.target.now in
    let x = index_of c.args.index.now in
    let u = live c.place_of.new.self.session.now in (
      goes value_of i (meaning.value (expr_of c.args.expr.now)) (λ v. target_assignment v e x) (live c.args.self.now.session.now) (live c.value.new.self.session.now) c.in_ok-written.written c.in_ok-written.ensures.0
          ∙ (rw c.in_ok-written.ensures.1.1 at c.in-Ok.ensures.effect.0)
          ∙ ap (λ e. (Ok e, u)) (sym (c.store_effect.ensures.effect u.bytes)),
      stays_on c.in_ok-written.ensures.1 c.in-Ok.ensures.effect.1,
    )

pub returns-in-Ok-clause-ready : goal.returns-in-Ok-clause-ready
returns-in-Ok-clause-ready c = c.store_effect.ensures.ready (live c.place_of.new.self.session.now) c.in-Ok.ensures.ready
