use Rattle.std.proofs.Common.{ap, ◌∙◌, sym, subst}
use Rattle.nd_model.specs.Arrays.Content.{array_bytes, content_in_order}
use Rattle.nd_convert.proofs.conversion.InOrder.{copied_block}
use Rattle.nd_assign.specs.HeldFields.{HoldsFields}
use Rattle.nd_operation.specs.Operators.Contents.{contents_over}
use Rattle.nd_operation.proofs.operators.Creating.{gives_array}
use Rattle.nd_eval.specs.Choosing.Selections.{selected}
use Rattle.nd_eval.proofs.choosing.Used.{contents_held}
use Rattle.nd_eval.proofs.choosing.selections.copy_selection.Goals as goal

pub returns : goal.returns
returns c =
    let s = c.args.selection.now in
    let h = selected s in
    let block = c.args.block.now in
    let holds = subst HoldsFields c.elem.ensures c.hold_fields.ensures in
    let contents = contents_held h.element h block (λ i. h.element) holds c.requires in
    gives_array h.element h.shape (content_in_order h.shape (contents_over h block)) c.in_ok-found.found.0 c.in_ok-found.found.1 s.chosen.limits c.in_ok-found.ensures.array
    (c.in_ok-found.ensures.bytes ∙ copied_block h.element h.shape block h.places s.chosen.count ∙ ap (λ cs. array_bytes h.element h.shape (content_in_order h.shape cs)) (sym contents))
