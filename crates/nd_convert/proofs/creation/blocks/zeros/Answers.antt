use Rattle.std.proofs.Common.{ap, ◌∙◌}
use Rattle.nd_model.specs.Arrays.View.{item_size}
use Rattle.nd_convert.proofs.creation.NewBytes.{zeros_bytes}
use Rattle.nd_convert.proofs.creation.blocks.zeros.Goals as goal

pub returns : goal.returns
returns c =
    let g = c.args.view.now in
    let size = c.size.ensures.value ∙ ap item_size c.elem.ensures in
    let made = zeros_bytes g.element g.shape c.count.result c.size.result c.count.ensures.elements size in
    rw (← made) c.zeros.ensures
