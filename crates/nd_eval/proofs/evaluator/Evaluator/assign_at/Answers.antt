use Rattle.nd_syntax.specs.Trees.Syntax.{index_of}
use Rattle.nd_session.specs.Inputs.Values.{inputs_of}
use Rattle.nd_eval.specs.Contents as contents
use Rattle.nd_eval.specs.Parts.{index_parts}
use Rattle.nd_eval.proofs.Chains.{exits, follows}
use Rattle.nd_eval.proofs.Turns.{stays_on}
use Rattle.nd_eval.proofs.Held.{held_after}
use Rattle.nd_eval.proofs.evaluator.Evaluator.assign_at.Goals as goal

pub returns-in_err-index-clause-effect : goal.returns-in_err-index-clause-effect
returns-in_err-index-clause-effect c = (
  exits contents.index_of _ (inputs_of c.args.self.now.inputs.now.entries) (index_parts (index_of c.args.index.now)) _ _ _ _ _
      c.from_residual.ensures.1 c.in_err-index.ensures.0,
  c.in_err-index.ensures.1,
)

pub assign-place-requires-clause-value : goal.assign-place-requires-clause-value
assign-place-requires-clause-value c =
    held_after (inputs_of c.args.self.now.inputs.now.entries) (index_parts (index_of c.args.index.now)) _ _ _ c.args.value.now c.in_ok-index.ensures.0 c.requires.value

pub assign-place-requires-clause-target : goal.assign-place-requires-clause-target
assign-place-requires-clause-target c =
    held_after (inputs_of c.args.self.now.inputs.now.entries) (index_parts (index_of c.args.index.now)) _ _ _ c.args.target.now c.in_ok-index.ensures.0 c.requires.target

pub returns-clause-effect : goal.returns-clause-effect
returns-clause-effect c = (
  follows contents.index_of _ (inputs_of c.args.self.now.inputs.now.entries) (index_parts (index_of c.args.index.now)) _ _ _ _ c.in_ok-index.index _ c.in_ok-index.ensures.0
      (rw c.in_ok-index.ensures.1.1 at c.assign-place.ensures.effect.0),
  stays_on c.in_ok-index.ensures.1 c.assign-place.ensures.effect.1,
)
