use Rattle.std.proofs.Common.{ap, ap₂, ◌∙◌}
use Rattle.std.specs.Prelude.{codes, decimal, ◌++◌}
use Rattle.nd_model.specs.Arrays.View.{item_size}
use Rattle.nd_model.specs.Formats.Format.{format_text}
use Rattle.nd_script.proofs.lines.Answers.{pushes_same, pushes_trans}
use Rattle.nd_desk.proofs.answer.push_row_type.Goals as goal

pub returns-clause-pushed : goal.returns-clause-pushed
returns-clause-pushed g c =
    let format = c.as_str.ensures.value ∙ c.in_ok-format.ensures ∙ ap format_text c.elem.ensures in
    let size = ap item_size c.elem-2.ensures in
    pushes_same (ap₂ (λ f n. codes "row " ++ f ++ codes " " ++ decimal n) format size)
    (pushes_trans c.push_text.ensures c.push_layout.ensures)
