use Rattle.std.proofs.Common.{ap, ◌∙◌}
use Rattle.nd_model.specs.Arrays.View.{item_size}
use Rattle.nd_model.specs.Formats.Format.{format_text}
use Rattle.nd_element.specs.Elements.{canonical_bytes}
use Rattle.nd_notebook.specs.Types.{type_of}
use Rattle.nd_commands.proofs.Arrays.{row_pushed}
use Rattle.nd_commands.proofs.value.push_row.Goals as goal

pub returns-clause-pushed : goal.returns-clause-pushed
returns-clause-pushed g c =
    let view = c.args.elements.view.now in
    let format = c.as_str.ensures.value ∙ c.in_ok-layout.ensures.format ∙ ap format_text c.elem.ensures in
    row_pushed view.element c.as_str.result.now (item_size (type_of c.elem-2.result.now)) format (ap item_size c.elem-2.ensures)
    (canonical_bytes view c.args.elements.block.now) c.push_text.ensures c.push_layout.ensures c.push_text-2.ensures c.push_elements.ensures
