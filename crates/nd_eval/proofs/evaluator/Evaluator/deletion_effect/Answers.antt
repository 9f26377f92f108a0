use Rattle.std.proofs.Common.{◌∙◌, sym, ap, Ok, [], ◌∷◌}
use Rattle.nd_model.specs.Cells.Running as running
use Rattle.nd_model.specs.Cells.Evaluation.{run}
use Rattle.nd_model.specs.Making.Operand.{Unused, Unbinds}
use Rattle.nd_model.specs.Cells.Operation as operation
use Rattle.nd_heap.specs.Values.{value_of}
use Rattle.nd_session.specs.Inputs.Values.{inputs_of}
use Rattle.nd_session.specs.Session.Live.{live}
use Rattle.nd_eval.proofs.Chains.{goes}
use Rattle.nd_eval.proofs.Parts.{deletion_parts}
use Rattle.nd_eval.proofs.evaluator.Evaluator.deletion_effect.Goals as goal

pub returns-clause-effect : goal.returns-clause-effect
returns-clause-effect c =
    let i = inputs_of c.args.self.now.inputs.now.entries in
    let n = c.args.name.now in
    let s = live c.look_up.new.self.session.now in
    let v = value_of c.in_ok-bound.bound in (
      goes value_of i (operation.name n) (λ v. operation.act_on (λ os. Ok (Unbinds n)) ((Unused, v) ∷ [])) _ _ c.in_ok-bound.bound c.in_ok-bound.ensures.0
          ∙ ap (λ t. run i t s) (deletion_parts n v)
          ∙ ap (λ n. (Ok (running.Unbinding n), s)) (sym c.in_ok-name.ensures.ok),
      c.in_ok-bound.ensures.1,
    )
