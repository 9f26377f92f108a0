use Rattle.std.proofs.Common.{arith, ◌∷◌}
use Rattle.nd_model.specs.Making.Augmenting.{augment_item}
use Rattle.nd_model.specs.Cells.Evaluation.{◌>>=◌}
use Rattle.nd_model.specs.Cells.Meaning as meaning
use Rattle.nd_model.specs.Making.Operand.{Whole, Unused}
use Rattle.nd_model.specs.Cells.Operation.{Views, act_on, perform}
use Rattle.nd_syntax.specs.Trees.Syntax.{binary_op, expr_of, index_of}
use Rattle.nd_heap.specs.Values.{value_of}
use Rattle.nd_session.specs.Inputs.Values.{inputs_of}
use Rattle.nd_eval.proofs.Bounds.{next_value}
use Rattle.nd_eval.proofs.Chains.{exits, follows, ends_alike}
use Rattle.nd_eval.proofs.Turns.{stays_on}
use Rattle.nd_eval.proofs.IndexPlans.{index_all}
use Rattle.nd_eval.proofs.Held.{value_held}
use Rattle.nd_eval.proofs.evaluator.Evaluator.augment_item_effect.Goals as goal

pub returns-in_err-target-clause-effect : goal.returns-in_err-target-clause-effect
returns-in_err-target-clause-effect c = (
  exits value_of _ (inputs_of c.args.self.now.inputs.now.entries) (meaning.value (expr_of c.args.target.now)) _ _ _ _ _
      c.from_residual.ensures.1 c.in_err-target.ensures.0,
  c.in_err-target.ensures.1,
)

pub augment_index-made-requires-clause-held : goal.augment_index-made-requires-clause-held
augment_index-made-requires-clause-held c =
    value_held (inputs_of c.args.self.now.inputs.now.entries) (expr_of c.args.target.now) _ _ c.in_ok-target.target c.in_ok-target.ensures.0 c.soundness.ensures

pub augment_index-made-requires-clause-room : goal.augment_index-made-requires-clause-room
augment_index-made-requires-clause-room c =
    let room = c.requires in
    let made = next_value (inputs_of c.args.self.now.inputs.now.entries) (expr_of c.args.target.now) _ _ _ c.in_ok-target.ensures.0 in
    omega arith

pub returns-clause-effect : goal.returns-clause-effect
returns-clause-effect c =
    let i = inputs_of c.args.self.now.inputs.now.entries in
    let op = binary_op c.args.op in
    let e = expr_of c.args.expr.now in
    let t = value_of c.in_ok-target.target in
    let x = index_of c.args.index.now in (
      follows value_of _ i (meaning.value (expr_of c.args.target.now)) _ _ _ _ c.in_ok-target.target _ c.in_ok-target.ensures.0
          (ends_alike _ _ _ (index_all i x (λ w vs. perform (Views w) ((Unused, t) ∷ vs) >>= λ v. meaning.value e >>= λ y. act_on (augment_item op w) ((Whole, y) ∷ (Whole, v) ∷ (Unused, t) ∷ vs)) _)
          (rw c.in_ok-target.ensures.1.1 at c.augment_index-made.ensures.effect.0)),
      stays_on c.in_ok-target.ensures.1 c.augment_index-made.ensures.effect.1,
    )
