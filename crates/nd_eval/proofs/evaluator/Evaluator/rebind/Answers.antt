use Rattle.std.proofs.Common.{◌∙◌, sym, ap, Ok}
use Rattle.nd_model.specs.Making.Elementwise.{binary}
use Rattle.nd_model.specs.Cells.Evaluation.{Gives}
use Rattle.nd_model.specs.Cells.Running as running
use Rattle.nd_heap.specs.Values.{value_of}
use Rattle.nd_session.specs.Inputs.Values.{inputs_of}
use Rattle.nd_session.specs.Session.Live.{live}
use Rattle.nd_syntax.specs.Trees.Syntax.{binary_op}
use Rattle.nd_eval.specs.Parts.{operate}
use Rattle.nd_eval.proofs.Augmented.{made_bound, operate_held}
use Rattle.nd_eval.proofs.Chains.{ends_alike, exits, goes}
use Rattle.nd_eval.proofs.evaluator.Evaluator.rebind.Goals as goal

pub returns-in_err-bound-clause-effect : goal.returns-in_err-bound-clause-effect
returns-in_err-bound-clause-effect c =
    let i = inputs_of c.args.self.now.inputs.now.entries in
    let op = binary_op c.args.op in
    let v = c.args.found.now in
    let w = c.args.value.now in (
      ends_alike _ _ _ (made_bound i c.args.name.now op v w _ c.requires.none)
          (exits value_of _ i (operate (binary op) (value_of v) (value_of w)) _ _ _ _ _ c.from_residual.ensures.1 c.in_err-bound.ensures.0),
      c.in_err-bound.ensures.1,
    )

pub returns-in-Ok-clause-effect : goal.returns-in-Ok-clause-effect
returns-in-Ok-clause-effect c =
    let i = inputs_of c.args.self.now.inputs.now.entries in
    let n = c.args.name.now in
    let op = binary_op c.args.op in
    let v = c.args.found.now in
    let w = c.args.value.now in
    let x = value_of c.in_ok-bound.bound in (
      made_bound i n op v w _ c.requires.none
          ∙ goes value_of i (operate (binary op) (value_of v) (value_of w)) (λ x. Gives (running.Binding n x)) _ _ c.in_ok-bound.bound c.in_ok-bound.ensures.0
          ∙ ap (λ n. (Ok (running.Binding n x), live c.operate.new.self.session.now)) (sym c.in-Ok.ensures.ok),
      c.in_ok-bound.ensures.1,
    )

pub returns-in-Ok-clause-ready : goal.returns-in-Ok-clause-ready
returns-in-Ok-clause-ready c =
    operate_held (inputs_of c.args.self.now.inputs.now.entries) (binary (binary_op c.args.op)) c.args.found.now c.args.value.now _ _ c.in_ok-bound.bound c.in_ok-bound.ensures.0
    c.requires.found c.requires.value
