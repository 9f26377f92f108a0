use Rattle.nd_model.specs.Cells.Meaning as meaning
use Rattle.nd_syntax.specs.Trees.Syntax.{expr_of}
use Rattle.nd_heap.specs.Values.{value_of}
use Rattle.nd_session.specs.Inputs.Values.{inputs_of}
use Rattle.nd_eval.proofs.Chains.{exits, follows}
use Rattle.nd_eval.proofs.Held.{value_held}
use Rattle.nd_eval.proofs.Turns.{stays_on}
use Rattle.nd_eval.proofs.evaluator.Evaluator.save_effect.Goals as goal

pub returns-in_err-saved-clause-effect : goal.returns-in_err-saved-clause-effect
returns-in_err-saved-clause-effect c = (
  exits value_of _ (inputs_of c.args.self.now.inputs.now.entries) (meaning.value (expr_of c.args.expr.now)) _ _ _ _ _
      c.from_residual.ensures.1 c.in_err-saved.ensures.0,
  c.in_err-saved.ensures.1,
)

pub save-made-requires : goal.save-made-requires
save-made-requires c = value_held (inputs_of c.args.self.now.inputs.now.entries) (expr_of c.args.expr.now) _ _ c.in_ok-saved.saved c.in_ok-saved.ensures.0 c.soundness.ensures

pub returns-clause-effect : goal.returns-clause-effect
returns-clause-effect c = (
  follows value_of _ (inputs_of c.args.self.now.inputs.now.entries) (meaning.value (expr_of c.args.expr.now)) _ _ _ _
      c.in_ok-saved.saved _ c.in_ok-saved.ensures.0 (rw c.in_ok-saved.ensures.1.1 at c.save-made.ensures.effect.0),
  stays_on c.in_ok-saved.ensures.1 c.save-made.ensures.effect.1,
)
