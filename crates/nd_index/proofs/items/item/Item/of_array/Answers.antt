use Rattle.std.proofs.Common.{◌≡◌, ◌<◌, length, Some, sym, ap, ◌∙◌, rules}
use Rattle.nd_model.specs.Indexing.Advanced.{kind_item}
use Rattle.nd_model.specs.Arrays.Element.{Boolean}
use Rattle.nd_model.specs.Arrays.View.{One}
use Rattle.nd_element.specs.Elements.{numbers_at}
use Rattle.nd_types.specs.Kinds.{kind_of}
use Rattle.nd_types.specs.Types.{type_of}
use Rattle.nd_index.proofs.items.Items.{array_is, other_kind}
use Rattle.nd_index.proofs.items.item.Item.of_array.Goals as goal

pub returns-in-Bool : goal.returns-in-Bool
returns-in-Bool c =
    let g = c.args.view.now in let e = c.in-One.elem in
    let type : One e ≡ g.element = ap type_of (sym c.in-One.is) ∙ c.elem.ensures in
    let some : 0 < length g.shape = search rules in
    let kind : e.kind ≡ Boolean = sym c.kind.ensures ∙ ap kind_of c.in-Bool.is in
    sym (array_is g.element e g.shape c.args.bytes.now g.places type some ∙ ap (λ k. Some (kind_item k g.shape (numbers_at e c.args.bytes.now g.places))) kind)

pub returns-in_default-kind : goal.returns-in_default-kind
returns-in_default-kind c =
    let g = c.args.view.now in let e = c.in-One.elem in
    let type : One e ≡ g.element = ap type_of (sym c.in-One.is) ∙ c.elem.ensures in
    let some : 0 < length g.shape = search rules in
    let zs = numbers_at e c.args.bytes.now g.places in
    sym (array_is g.element e g.shape c.args.bytes.now g.places type some ∙ ap (λ k. Some (kind_item k g.shape zs)) (sym c.kind.ensures)
    ∙ ap Some (other_kind c.kind.result c.in_default-kind.not-Bool g.shape zs))
