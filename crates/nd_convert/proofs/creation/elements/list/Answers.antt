use Rattle.std.proofs.Common.{sym, ◌∙◌}
use Rattle.nd_convert.proofs.creation.NewBytes.{in_place, list_bytes}
use Rattle.nd_convert.proofs.creation.elements.list.Goals as goal

pub returns : goal.returns
returns c =
    let zs = c.args.numbers.now in
    in_place c.args.elem zs c.size.result c.in_ok-block.block c.fill_in_turn.new.bytes c.size.ensures.value c.in_ok-block.ensures c.fill_in_turn.ensures
    ∙ list_bytes c.args.elem c.args.view.now.shape zs (c.requires ∙ sym c.count-count.ensures.value ∙ c.count-count.ensures.elements)
