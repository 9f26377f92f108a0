use Rattle.std.proofs.Common.{ℕ, List, subst}
use Rattle.std.specs.Prelude.{string_bytes}
use Rattle.nd_model.specs.Cells.Evaluation.{run}
use Rattle.nd_model.specs.Cells.Meaning.{meaning}
use Rattle.nd_model.specs.Grammar.Syntax.{Augment, Save}
use Rattle.nd_session.specs.Session.Live.{live}
use Rattle.nd_eval.specs.Effects.{effect_of}
use Rattle.nd_eval.specs.Ends.{Ends}
use Rattle.nd_syntax.specs.Trees.Syntax.{binary_op, expr_of, index_of}
use Rattle.nd_session.specs.Inputs.Values.{inputs_of}
use Rattle.nd_eval.proofs.Quiet.{quiet_assignment, quiet_augment, quiet_augment_item, quiet_binding, quiet_saving}
use Rattle.nd_eval.proofs.evaluator.Evaluator.stmt_effect.Goals as goal

pub returns-in-Bind-clause-effect : goal.returns-in-Bind-clause-effect
returns-in-Bind-clause-effect c =
    rw c.in-Bind.is
    (quiet_binding _ (inputs_of c.args.self.now.inputs.now.entries) _ _ c.binding_effect.result _ (expr_of c.in-Bind.expr) (rw c.as_str.ensures.value at c.binding_effect.ensures.effect.0), c.binding_effect.ensures.effect.1)

pub returns-in-Assign-clause-effect : goal.returns-in-Assign-clause-effect
returns-in-Assign-clause-effect c =
    let a = c.in-Assign in
    rw a.is
    (quiet_assignment _ (inputs_of c.args.self.now.inputs.now.entries) _ _ c.assignment_effect.result (expr_of a.target) (index_of a.index) (expr_of a.expr) c.assignment_effect.ensures.effect.0, c.assignment_effect.ensures.effect.1)

pub returns-in-Augment-clause-effect : goal.returns-in-Augment-clause-effect
returns-in-Augment-clause-effect c =
    let a = c.in-Augment in
    let i = inputs_of c.args.self.now.inputs.now.entries in
    let r = live c.args.self.now.session.now in
    let s = live c.augment_effect.new.self.session.now in
    let w = effect_of s.bytes in
    let told = subst (λ (n : List ℕ). Ends w c.augment_effect.result s (run i (meaning (Augment n (binary_op a.op) (expr_of a.expr))) r)) c.as_str-in-Augment.ensures.value c.augment_effect.ensures.effect.0 in
    rw a.is (quiet_augment w i r s c.augment_effect.result (string_bytes a.name) (binary_op a.op) (expr_of a.expr) told, c.augment_effect.ensures.effect.1)

pub returns-in-AugmentItem-clause-effect : goal.returns-in-AugmentItem-clause-effect
returns-in-AugmentItem-clause-effect c =
    let a = c.in-AugmentItem in
    rw a.is
    (quiet_augment_item _ (inputs_of c.args.self.now.inputs.now.entries) _ _ c.augment_item_effect.result (expr_of a.target) (index_of a.index) (binary_op a.op) (expr_of a.expr) c.augment_item_effect.ensures.effect.0, c.augment_item_effect.ensures.effect.1)

pub returns-in-Save-clause-effect : goal.returns-in-Save-clause-effect
returns-in-Save-clause-effect c =
    let a = c.in-Save in
    let i = inputs_of c.args.self.now.inputs.now.entries in
    let r = live c.args.self.now.session.now in
    let s = live c.save_effect.new.self.session.now in
    let w = effect_of s.bytes in
    let told = subst (λ (n : List ℕ). Ends w c.save_effect.result s (run i (meaning (Save n (expr_of a.expr))) r)) c.as_str-in-Save.ensures.value c.save_effect.ensures.effect.0 in
    rw a.is (quiet_saving w i r s c.save_effect.result (string_bytes a.name) (expr_of a.expr) told, c.save_effect.ensures.effect.1)
