use Rattle.std.proofs.Common.{◌≡◌, Ok, Err, true, false, length, map, sym, ap, ◌∙◌, subst}
use Rattle.nd_model.specs.Making.Assigning.{fits_into}
use Rattle.nd_model.specs.Making.Augmenting.{content_in_place, in_place_kind}
use Rattle.nd_model.specs.Making.Operand as model
use Rattle.nd_model.specs.Cells.Sound.{LiesIn}
use Rattle.nd_model.specs.Arrays.Tuple.{indices}
use Rattle.nd_model.specs.Arrays.View.{Geo}
use Rattle.nd_syntax.specs.Trees.Syntax.{binary_op}
use Rattle.nd_types.specs.Kinds.{kind_of}
use Rattle.nd_heap.specs.declared.value.Value.TheVariants.{Array}
use Rattle.nd_heap.specs.Values.{base_of, geo_of, value_of}
use Rattle.nd_session.specs.Session.Live.{live}
use Rattle.nd_operation.specs.Operators.Contents.{contents_over, unused_of}
use Rattle.nd_operation.specs.Refusals.Ends.{Makes}
use Rattle.nd_eval.specs.Choosing.Indexing.{index_operands, operands_of, viewing_of}
use Rattle.nd_model.specs.Indexing.Index.{has_array}
use Rattle.nd_eval.specs.declared.choosing.targets.Target.TheVariants.{Elements}
use Rattle.nd_eval.specs.Choosing.Targets.{IsChosenOf, Lies, geo_in, writes_to}
use Rattle.nd_eval.specs.Parts.{stored_in}
use Rattle.nd_eval.specs.Uses.{HasTypeOf, IsHeld, operand_over}
use Rattle.nd_eval.proofs.Augmented.{exits_copy, exits_left, goes_left, only_of_an_array}
use Rattle.nd_eval.proofs.augment.copy_update.Goals as goal

pub returns-in_err-kind-clause-effect : goal.returns-in_err-kind-clause-effect
returns-in_err-kind-clause-effect c =
    let r = live c.args.session.now in
    let op = binary_op c.args.op in
    let g = geo_of c.args.copy.now in
    let t = c.args.target.now in
    exits_copy op g (contents_over g (r.bytes (base_of c.args.copy.now.base))) (operand_over r.bytes c.args.value.now) (viewing_of c.args.index.now) (value_of t) (unused_of t) (index_operands r.bytes c.args.index.now) _ _ _ c.from_residual.ensures.1
    (subst (λ o. Makes kind_of (Err c.in_err-kind.field-0.0) (in_place_kind op g o)) c.operand_in-operand.ensures c.in_err-kind.ensures)

pub returns-in_err-found-clause-effect : goal.returns-in_err-found-clause-effect
returns-in_err-found-clause-effect c =
    let r = live c.args.session.now in
    let op = binary_op c.args.op in
    let g = geo_of c.args.copy.now in
    let t = c.args.target.now in
    let kind = subst (λ o. Makes kind_of (Ok c.in_ok-kind.kind) (in_place_kind op g o)) c.operand_in-operand.ensures c.in_ok-kind.ensures in
    exits_left op g (contents_over g (r.bytes (base_of c.args.copy.now.base))) (operand_over r.bytes c.args.value.now) (viewing_of c.args.index.now) (value_of t) (unused_of t) (index_operands r.bytes c.args.index.now) (kind_of c.in_ok-kind.kind) kind _ _ _ c.from_residual-in_err-found.ensures.1 c.in_err-found.ensures.target

pub returns-in_default : goal.returns-in_default
returns-in_default c =
    let r = live c.args.session.now in
    let g = geo_of c.args.copy.now in
    let x = c.args.index.now in
    absurd (only_of_an_array x c.args.target.now (model.Elements false g (contents_over g (r.bytes (base_of c.args.copy.now.base)))) (index_operands r.bytes x) (geo_in c.in_ok-found.found)
    c.requires.advanced c.in_ok-found.ensures.target c.in_default.not-Array)

pub returns-in-Elements-clause-effect : goal.returns-in-Elements-clause-effect
returns-in-Elements-clause-effect c =
    let r = live c.args.session.now in
    let op = binary_op c.args.op in
    let g = geo_of c.args.copy.now in
    let t = c.args.target.now in
    let k = kind_of c.in_ok-kind.kind in
    let cs = contents_over g (r.bytes (base_of c.args.copy.now.base)) in
    let y = operand_over r.bytes c.args.value.now in
    let kind = subst (λ o. Makes kind_of (Ok c.in_ok-kind.kind) (in_place_kind op g o)) c.operand_in-operand.ensures c.in_ok-kind.ensures in
    goes_left op g cs y (viewing_of c.args.index.now) (value_of t) (unused_of t) (index_operands r.bytes c.args.index.now) k kind c.in_ok-found.found c.in_ok-found.ensures.target
    ∙ (λ j. stored_in (writes_to (geo_in (c.in-Elements.is j)) (model.Elements false g (map (content_in_place k op g cs y) (indices g.shape)))) (value_of (c.in-Array.is j)))

pub returns-in-Elements-clause-ready : goal.returns-in-Elements-clause-ready
returns-in-Elements-clause-ready c =
    let r = live c.args.session.now in
    let op = binary_op c.args.op in
    let g = geo_of c.args.copy.now in
    let t = c.args.target.now in
    let len = length (r.bytes (base_of c.in-Array.array.base)) in
    let own = subst (IsHeld r) c.in-Array.is c.requires.target in
    let lies = c.in_ok-found.ensures.lies len (subst (λ t. Lies len (unused_of t)) (sym c.in-Array.is) own.lies) in
    let of_type = subst (λ t. HasTypeOf true (unused_of t) (Array c.args.copy.now)) c.in-Array.is c.requires.types in
    let copies = subst (λ b. IsChosenOf b (unused_of (Array c.in-Array.array)) (Elements c.in-Elements.selection)) c.requires.advanced
    (subst (λ t. IsChosenOf (has_array (operands_of c.args.index.now)) (unused_of t) (Elements c.in-Elements.selection)) c.in-Array.is
    (subst (IsChosenOf (has_array (operands_of c.args.index.now)) (unused_of t)) c.in-Elements.is c.in_ok-found.ensures.copies)) in
    record {
      target = subst (λ x. LiesIn len (geo_in x)) c.in-Elements.is lies;
      source = c.requires.copy.lies;
      value = c.requires.value;
      kind = subst (λ o. Makes kind_of (Ok c.in_ok-kind.kind) (in_place_kind op g o)) c.operand_in-operand.ensures c.in_ok-kind.ensures;
      types = of_type ∙ sym (ap (λ (g : Geo). g.element) copies);
      shapes = subst (λ x. fits_into g.shape (geo_in x).shape ≡ true) c.in-Elements.is c.in_ok-found.ensures.shapes;
    }
