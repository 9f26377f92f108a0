use Rattle.nd_eval.specs.Parts.{augmentation}
use Rattle.nd_eval.specs.Effects.{effect_of}
use Rattle.nd_session.specs.Session.Live.{live}
use Rattle.nd_model.specs.Cells.Evaluation.{◌>>=◌}
use Rattle.std.proofs.Common.{arith, Err}
use Rattle.nd_model.specs.Cells.Meaning as meaning
use Rattle.nd_model.specs.Cells.Operation as operation
use Rattle.nd_model.specs.Grammar.Syntax.{Name}
use Rattle.nd_syntax.specs.Trees.Syntax.{expr_of, binary_op}
use Rattle.nd_heap.specs.Values.{value_of}
use Rattle.nd_session.specs.Inputs.Values.{inputs_of}
use Rattle.nd_eval.proofs.Bounds.{next_value}
use Rattle.nd_eval.proofs.Chains.{exits, follows, stops}
use Rattle.nd_eval.proofs.Turns.{stays_on}
use Rattle.nd_eval.proofs.Held.{held_after, sound_after, value_held}
use Rattle.nd_eval.proofs.evaluator.Evaluator.augment_effect.Goals as goal

pub returns-in_err-found-clause-effect : goal.returns-in_err-found-clause-effect
returns-in_err-found-clause-effect c = (
  exits value_of _ (inputs_of c.args.self.now.inputs.now.entries) (operation.name c.args.name.now) _ _ _ _ _
      c.from_residual.ensures.1 c.in_err-found.ensures.0,
  c.in_err-found.ensures.1,
)

pub value-requires : goal.value-requires
value-requires c =
    let made = next_value (inputs_of c.args.self.now.inputs.now.entries) (Name c.args.name.now) _ _ _ c.in_ok-found.ensures.0 in
    omega arith

pub returns-in-Err-clause-effect : goal.returns-in-Err-clause-effect
returns-in-Err-clause-effect c =
    let i = inputs_of c.args.self.now.inputs.now.entries in
    let n = c.args.name.now in
    let e = expr_of c.args.expr.now in
    let op = binary_op c.args.op in
    let s = live c.look_up.new.self.session.now in
    let u = live c.value.new.self.session.now in (
      follows value_of (effect_of u.bytes) i (operation.name n) (λ x. meaning.value e >>= augmentation n op x) (live c.args.self.now.session.now) s u c.in_ok-found.found (Err c.in-Err.stop) c.in_ok-found.ensures.0
          (stops value_of (effect_of u.bytes) i (meaning.value e) (augmentation n op (value_of c.in_ok-found.found)) s u c.in-Err.stop (rw c.in_ok-found.ensures.1.1 at c.in-Err.ensures.0)),
      stays_on c.in_ok-found.ensures.1 c.in-Err.ensures.1,
    )

pub augment-requires-clause-found : goal.augment-requires-clause-found
augment-requires-clause-found c =
    let i = inputs_of c.args.self.now.inputs.now.entries in
    let v = c.in_ok-found.found in
    held_after i (meaning.value (expr_of c.args.expr.now)) _ _ _ v (rw c.in_ok-found.ensures.1.1 at c.in-Ok.ensures.0)
    (value_held i (Name c.args.name.now) _ _ v c.in_ok-found.ensures.0 c.soundness.ensures)

pub augment-requires-clause-value : goal.augment-requires-clause-value
augment-requires-clause-value c =
    let i = inputs_of c.args.self.now.inputs.now.entries in
    value_held i (expr_of c.args.expr.now) _ _ c.in-Ok.value (rw c.in_ok-found.ensures.1.1 at c.in-Ok.ensures.0)
    (sound_after i (operation.name c.args.name.now) _ _ _ c.in_ok-found.ensures.0 c.soundness.ensures)

pub augment-requires-clause-room : goal.augment-requires-clause-room
augment-requires-clause-room c =
    let i = inputs_of c.args.self.now.inputs.now.entries in
    let made = next_value i (Name c.args.name.now) _ _ _ c.in_ok-found.ensures.0 in
    let more = next_value i (expr_of c.args.expr.now) _ _ _ (rw c.in_ok-found.ensures.1.1 at c.in-Ok.ensures.0) in
    omega arith

pub returns-in-Ok-clause-effect : goal.returns-in-Ok-clause-effect
returns-in-Ok-clause-effect c =
    let i = inputs_of c.args.self.now.inputs.now.entries in
    let stays = stays_on c.in_ok-found.ensures.1 c.in-Ok.ensures.1 in (
      follows value_of _ i (operation.name c.args.name.now) _ _ _ _ c.in_ok-found.found _ c.in_ok-found.ensures.0
          (follows value_of _ i (meaning.value (expr_of c.args.expr.now)) _ _ _ _ c.in-Ok.value _ (rw c.in_ok-found.ensures.1.1 at c.in-Ok.ensures.0)
          (rw stays.1 at c.augment.ensures.effect.0)),
      stays_on stays c.augment.ensures.effect.1,
    )
