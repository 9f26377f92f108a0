use Rattle.std.proofs.Common.{length, sym, ap, ◌∙◌}
use Rattle.nd_model.specs.Arrays.View.{Geo, One}
use Rattle.nd_operation.proofs.operators.Listing.{contiguous_count}
use Rattle.nd_operation.proofs.operators.lists.list_array.Goals as goal

pub list_block-requires : goal.list_block-requires
list_block-requires c = c.requires.count ∙ sym (ap (λ (g : Geo). length g.places) c.in_ok-view.ensures ∙ contiguous_count (One c.args.elem) c.args.shape.now)
