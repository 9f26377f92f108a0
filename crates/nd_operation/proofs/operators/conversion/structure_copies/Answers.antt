use Rattle.std.proofs.Common.{List, [], length, map, sym, ap, ◌∙◌}
use Rattle.nd_model.specs.Arrays.Content.{Content, array_bytes, content_at, content_in_order}
use Rattle.nd_model.specs.Arrays.View.{Geo, item_size}
use Rattle.nd_operation.proofs.operators.Converting.{one_size}
use Rattle.nd_operation.proofs.operators.conversion.structure_copies.Goals as goal

pub repeat-requires : goal.repeat-requires
repeat-requires c =
    let g = c.args.elements.now.view.now in
    let cs : List Content = map (content_at g.element c.args.elements.now.block.now) g.places in
    ap length (c.as_slice.ensures ∙ c.in_ok-element.ensures) ∙ ap (λ s. length (array_bytes g.element s (content_in_order s cs))) c.requires.alone
    ∙ one_size g.element (content_in_order [] cs) ∙ ap item_size (sym c.requires.type_is) ∙ ap (λ (v : Geo). item_size v.element) (sym c.in_ok-view.ensures)
