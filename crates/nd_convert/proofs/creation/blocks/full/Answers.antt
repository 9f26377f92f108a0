use Rattle.std.proofs.Common.{◌∙◌}
use mir.Facts.{to_z-of_z}
use Rattle.nd_convert.proofs.creation.InOrder.{written}
use Rattle.nd_convert.proofs.creation.NewBytes.{full_bytes}
use Rattle.nd_convert.proofs.creation.blocks.full.Goals as goal

pub returns : goal.returns
returns c =
    written c.args.elem (λ k. c.args.number) c.count-count.result c.size.result c.in_ok-block.block c.fill.new.bytes c.size.ensures.value c.in_ok-block.ensures (simp (to_z-of_z, c.ranges.number) at c.fill.ensures)
    ∙ full_bytes c.args.elem c.args.view.now.shape c.args.number c.count-count.result c.count-count.ensures.elements
