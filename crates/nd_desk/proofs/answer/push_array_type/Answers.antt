use Rattle.std.proofs.Common.{ap, ap₂, ◌∙◌}
use Rattle.std.specs.Prelude.{codes, decimal, ◌++◌}
use Rattle.nd_model.specs.Arrays.View.{item_size}
use Rattle.nd_model.specs.Formats.Format.{format_text}
use Rattle.nd_model.specs.Book.Script.{shape_text}
use Rattle.nd_script.proofs.lines.Answers.{pushes_same, pushes_trans}
use Rattle.nd_desk.proofs.answer.push_array_type.Goals as goal

pub returns-clause-pushed : goal.returns-clause-pushed
returns-clause-pushed g c =
    let view = c.args.elements.view.now in
    let format = c.as_str.ensures.value ∙ c.in_ok-format.ensures ∙ ap format_text c.elem.ensures in
    let size = ap item_size c.elem-2.ensures in
    let shape = ap shape_text c.shape.ensures.value in
    pushes_same (ap₂ (λ f n. codes "array " ++ f ++ codes " " ++ decimal n ++ codes " " ++ shape_text view.shape) format size)
    (pushes_trans (pushes_trans (pushes_trans c.push_text.ensures c.push_layout.ensures) c.push_text-2.ensures) (pushes_same shape c.push_shape.ensures))
