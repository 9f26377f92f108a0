use Rattle.std.proofs.Common.{◌≡◌, List, length, map, ap, ◌∙◌, subst}
use Rattle.std.specs.Prelude.{IfOk}
use Rattle.nd_model.specs.Arrays.Content.{Content, Num, array_bytes, content_in_order}
use Rattle.nd_model.specs.Arrays.View.{One}
use Rattle.nd_model.specs.Making.Creation.{converted_numbers}
use Rattle.nd_types.specs.Kinds.{kind_of}
use Rattle.nd_operation.specs.Operators.Listing.{numbers_in}
use Rattle.nd_operation.proofs.operators.Listing.{numbers_count}
use Rattle.nd_operation.proofs.operators.lists.list_block.Goals as goal

pub list-requires : goal.list-requires
list-requires c =
    ap length c.deref.ensures.value ∙ numbers_count (kind_of c.kind.result) c.args.values.now c.in_ok-numbers.numbers.items c.in_ok-numbers.ensures ∙ c.requires

pub returns : goal.returns
returns c =
    let shape = c.args.view.now.shape in
    subst (λ (cs : List Content). IfOk c.list.result (λ b. b ≡ array_bytes (One c.args.elem) shape (content_in_order shape cs))) (ap (map Num) c.deref.ensures.value ∙ c.in_ok-numbers.ensures ∙ ap (λ k. converted_numbers k (numbers_in c.args.values.now)) c.kind.ensures) c.list.ensures
