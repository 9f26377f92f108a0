use Rattle.std.proofs.Common.{arith, ◌∷◌}
use Rattle.nd_model.specs.Cells.Meaning as meaning
use Rattle.nd_model.specs.Making.Operand.{Whole, Unused}
use Rattle.nd_model.specs.Cells.Operation.{act_on}
use Rattle.nd_syntax.specs.Trees.Syntax.{expr_of, index_of}
use Rattle.nd_heap.specs.Values.{value_of}
use Rattle.nd_session.specs.Inputs.Values.{inputs_of}
use Rattle.nd_eval.proofs.Bounds.{next_value}
use Rattle.nd_eval.proofs.Chains.{exits, follows, ends_alike}
use Rattle.nd_eval.proofs.Turns.{stays_on}
use Rattle.nd_eval.proofs.IndexPlans.{index_all}
use Rattle.nd_eval.proofs.Held.{held_after, value_held}
use Rattle.nd_eval.proofs.evaluator.Evaluator.place_of.Goals as goal

pub returns-in_err-target-clause-effect : goal.returns-in_err-target-clause-effect
returns-in_err-target-clause-effect c = (
  exits value_of _ (inputs_of c.args.self.now.inputs.now.entries) (meaning.value (expr_of c.args.target.now)) _ _ _ _ _
      c.from_residual.ensures.1 c.in_err-target.ensures.0,
  c.in_err-target.ensures.1,
)

pub assign_at-place-requires-clause-value : goal.assign_at-place-requires-clause-value
assign_at-place-requires-clause-value c =
    held_after (inputs_of c.args.self.now.inputs.now.entries) (meaning.value (expr_of c.args.target.now)) _ _ _ c.args.value.now c.in_ok-target.ensures.0 c.requires.value

pub assign_at-place-requires-clause-target : goal.assign_at-place-requires-clause-target
assign_at-place-requires-clause-target c =
    value_held (inputs_of c.args.self.now.inputs.now.entries) (expr_of c.args.target.now) _ _ c.in_ok-target.target c.in_ok-target.ensures.0 c.soundness.ensures

pub assign_at-place-requires-clause-room : goal.assign_at-place-requires-clause-room
assign_at-place-requires-clause-room c =
    let room = c.requires.room in
    let more = next_value (inputs_of c.args.self.now.inputs.now.entries) (expr_of c.args.target.now) _ _ _ c.in_ok-target.ensures.0 in
    omega arith

pub returns-clause-effect : goal.returns-clause-effect
returns-clause-effect c =
    let i = inputs_of c.args.self.now.inputs.now.entries in
    let v = value_of c.args.value.now in
    let t = value_of c.in_ok-target.target in (
      follows value_of _ i (meaning.value (expr_of c.args.target.now)) _ _ _ _ c.in_ok-target.target _ c.in_ok-target.ensures.0
          (ends_alike _ _ _ (index_all i (index_of c.args.index.now) (λ w vs. act_on (meaning.assignment_deed w) ((Whole, v) ∷ (Unused, t) ∷ vs)) _)
          (rw c.in_ok-target.ensures.1.1 at c.assign_at-place.ensures.effect.0)),
      stays_on c.in_ok-target.ensures.1 c.assign_at-place.ensures.effect.1,
    )
