use Rattle.std.proofs.Common.{length, sym, ap, ◌∙◌}
use Rattle.nd_model.specs.Making.Operand.{shape_of}
use Rattle.nd_model.specs.Making.Writing as writing
use Rattle.nd_operation.specs.Operators.Contents.{unused_of}
use Rattle.nd_eval.specs.Choosing.Indexing.{index_operands, viewing_of}
use Rattle.nd_eval.specs.Choosing.Targets.{is_lone_mask}
use Rattle.nd_eval.proofs.choosing.Masked.{lone_mask_is}
use Rattle.nd_eval.proofs.choosing.targets.is_full_mask.Goals as goal

pub returns-in-Items : goal.returns-in-Items
returns-in-Items c =
    let axes = length (shape_of (unused_of c.args.target.now)) in λ bytes.
    c.is_lone_mask.ensures ∙ (λ i. is_lone_mask (c.axes_of.ensures i) (c.deref.ensures.value i)) ∙ lone_mask_is axes bytes c.in-Items.items.items
    ∙ ap (λ x. writing.is_full_mask axes (writing.items_in (viewing_of x) (index_operands bytes x))) (sym c.in-Items.is)
