use Rattle.nd_eval.specs.Uses.{operand_over}
use Rattle.nd_eval.specs.Effects.{effect_of}
use Rattle.nd_operation.specs.Operators.Contents.{contents_over}
use Rattle.nd_session.specs.Session.Live.{live}
use Rattle.std.proofs.Common.{Err, sym, ap, ◌∙◌, subst, refl}
use Rattle.nd_model.specs.Making.Augmenting.{in_place_kind}
use Rattle.nd_syntax.specs.Trees.Syntax.{binary_op}
use Rattle.nd_types.specs.Kinds.{kind_of}
use Rattle.nd_heap.specs.Values.{geo_of, base_of}
use Rattle.nd_operation.specs.Refusals.Ends.{Makes}
use Rattle.nd_eval.proofs.Augmented.{exits_update, goes_update}
use Rattle.nd_eval.proofs.augment.update_effect.Goals as goal

pub returns-in-Err-clause-effect : goal.returns-in-Err-clause-effect
returns-in-Err-clause-effect c =
    let r = live c.args.session.now in
    let op = binary_op c.args.op in
    let g = geo_of c.args.array in
    let b = base_of c.args.array.base in
    exits_update (effect_of r.bytes) op b g (contents_over g (r.bytes b)) (operand_over r.bytes c.args.value) c.in-Err.stop (Err c.in-Err.stop) refl
    (subst (λ o. Makes kind_of (Err c.in-Err.stop) (in_place_kind op g o)) c.operand_in-operand.ensures c.in-Err.ensures)

pub returns-in-Ok-clause-effect : goal.returns-in-Ok-clause-effect
returns-in-Ok-clause-effect c =
    let op = binary_op c.args.op in
    let g = geo_of c.args.array in
    goes_update op _ g _ _ _ (ap (in_place_kind op g) (sym c.operand_in-operand.ensures) ∙ c.in-Ok.ensures)

pub returns-in-Ok-clause-ready : goal.returns-in-Ok-clause-ready
returns-in-Ok-clause-ready c =
    record {
      target = c.requires.array.lies;
      value = c.requires.value;
      kind = ap (in_place_kind (binary_op c.args.op) (geo_of c.args.array)) (sym c.operand_in-operand.ensures) ∙ c.in-Ok.ensures;
    }
