use Rattle.std.proofs.Common.{◌≡◌, List, ℕ, map, length, sym, ap, ◌∙◌, subst}
use Rattle.std.specs.Prelude.{IfOk}
use Rattle.nd_model.specs.Arrays.Content.{array_bytes, content_at, content_in_order}
use Rattle.nd_model.specs.Arrays.Tuple.{elements_of}
use Rattle.nd_model.specs.Arrays.View.{ElementType, One, Structure}
use Rattle.nd_types.specs.Types.{type_of}
use Rattle.nd_convert.proofs.conversion.InOrder.{copied_block, own_block}
use Rattle.nd_convert.proofs.conversion.blocks.copy_elements.Goals as goal

pub returns-in-One : goal.returns-in-One
returns-in-One c =
    let g = c.args.view.now in let bytes = c.args.bytes.now in let made = c.convert_numbers.result in let e = c.in-One.elem in
    let same : length g.places ≡ elements_of g.shape = sym c.count-count.ensures.value ∙ c.count-count.ensures.elements in
    let type : One e ≡ g.element = ap type_of (sym c.in-One.is) ∙ c.elem.ensures in
    subst (λ (t : ElementType). IfOk made (λ b. b ≡ array_bytes t g.shape (content_in_order g.shape (map (content_at t bytes) g.places)))) type
    (subst (λ (l : List ℕ). IfOk made (λ b. b ≡ l)) (own_block e g.shape bytes g.places same) c.convert_numbers.ensures)

pub returns-in-Rec : goal.returns-in-Rec
returns-in-Rec c =
    let g = c.args.view.now in let bytes = c.args.bytes.now in let made = c.copy_structures.result in let s = c.deref.result.now in
    let same : length g.places ≡ elements_of g.shape = sym c.count-count.ensures.value ∙ c.count-count.ensures.elements in
    let type : Structure s.0 s.1 ≡ g.element = (λ i. Structure (c.deref.ensures i).0 (c.deref.ensures i).1) ∙ ap type_of (sym c.in-Rec.is) ∙ c.elem.ensures in
    subst (λ (t : ElementType). IfOk made (λ b. b ≡ array_bytes t g.shape (content_in_order g.shape (map (content_at t bytes) g.places)))) type
    (subst (λ (l : List ℕ). IfOk made (λ b. b ≡ l)) (copied_block (Structure s.0 s.1) g.shape bytes g.places same) c.copy_structures.ensures)
