use Rattle.std.proofs.Common.{◌≡◌, sym, ap, subst, ◌∙◌}
use Rattle.std.specs.Prelude.{IfOk}
use Rattle.nd_model.specs.Arrays.Content.{array_bytes}
use Rattle.nd_model.specs.Making.Conversion.{converts}
use Rattle.nd_model.specs.Making.Creation.{converted_at}
use Rattle.nd_model.specs.Arrays.View.{ElementType, Structure}
use Rattle.nd_types.specs.Types.{type_of}
use Rattle.nd_operation.specs.Operators.Contents.{elements_over}
use Rattle.nd_operation.proofs.operators.Converting.{structure_from, structures_stay}
use Rattle.nd_operation.proofs.operators.conversion.converted_block.Goals as goal

pub returns-in-Rec-default : goal.returns-in-Rec-default
returns-in-Rec-default c =
    let s = c.in-Rec-default.field-0-0.value in
    let g = c.args.elements.now.view.now in
    let block = c.args.elements.now.block.now in
    let made = c.copy_elements-in-Rec-default.result in
    let typed : type_of c.args.elem.now ≡ Structure s.0 s.1 = ap type_of c.in-Rec-default.is-0 in
    subst (λ (t : ElementType). IfOk made (λ b. b ≡ array_bytes t g.shape (converted_at t (elements_over c.args.elements.now.is_row g block)))) (sym typed)
    (structures_stay c.args.elements.now.is_row g block c.soundness.ensures s.0 s.1 made (structure_from g.element s.0 s.1 (ap (converts g.element) (sym typed) ∙ c.requires)) c.copy_elements-in-Rec-default.ensures)
