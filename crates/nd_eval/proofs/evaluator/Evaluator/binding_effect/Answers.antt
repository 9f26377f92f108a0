use Rattle.std.proofs.Common.{◌∙◌, sym, ap, Ok, [], ◌∷◌}
use Rattle.nd_model.specs.Cells.Running as running
use Rattle.nd_model.specs.Cells.Evaluation.{run}
use Rattle.nd_model.specs.Cells.Meaning as meaning
use Rattle.nd_model.specs.Making.Operand.{Unused, BindsFirst}
use Rattle.nd_model.specs.Cells.Operation.{act_on}
use Rattle.nd_syntax.specs.Trees.Syntax.{expr_of}
use Rattle.nd_heap.specs.Values.{value_of}
use Rattle.nd_session.specs.Inputs.Values.{inputs_of}
use Rattle.nd_session.specs.Session.Live.{live}
use Rattle.nd_eval.proofs.Held.{value_held}
use Rattle.nd_eval.proofs.Chains.{exits, goes}
use Rattle.nd_eval.proofs.Parts.{binding_parts}
use Rattle.nd_eval.proofs.evaluator.Evaluator.binding_effect.Goals as goal

pub returns-in_err-bound-clause-effect : goal.returns-in_err-bound-clause-effect
returns-in_err-bound-clause-effect c = (
  exits value_of _ (inputs_of c.args.self.now.inputs.now.entries) (meaning.value (expr_of c.args.expr.now)) _ _ _ _ _
      c.from_residual.ensures.1 c.in_err-bound.ensures.0,
  c.in_err-bound.ensures.1,
)

pub returns-in-Ok-clause-effect : goal.returns-in-Ok-clause-effect
returns-in-Ok-clause-effect c =
    let i = inputs_of c.args.self.now.inputs.now.entries in
    let v = value_of c.in_ok-bound.bound in (
      goes value_of i (meaning.value (expr_of c.args.expr.now)) (λ v. act_on (λ os. Ok (BindsFirst c.args.name.now)) ((Unused, v) ∷ [])) _ _ c.in_ok-bound.bound c.in_ok-bound.ensures.0
          ∙ ap (λ t. run i t (live c.value.new.self.session.now)) (binding_parts c.args.name.now v)
          ∙ ap (λ n. (Ok (running.Binding n v), live c.value.new.self.session.now)) (sym c.in-Ok.ensures.ok),
      c.in_ok-bound.ensures.1,
    )

pub returns-in-Ok-clause-ready : goal.returns-in-Ok-clause-ready
returns-in-Ok-clause-ready c =
    value_held (inputs_of c.args.self.now.inputs.now.entries) (expr_of c.args.expr.now) _ _ c.in_ok-bound.bound c.in_ok-bound.ensures.0 c.soundness.ensures
