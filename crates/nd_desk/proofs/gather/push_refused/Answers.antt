use Rattle.std.proofs.Common.{ℕ, List, ◌++◌, ap, ◌∙◌}
use Rattle.std.specs.Prelude.{codes, decimal}
use Rattle.nd_model.specs.Text.FaultText.{edit_fault_text}
use Rattle.nd_script.proofs.lines.Answers.{pushes_same, pushes_trans}
use Rattle.nd_notebook.specs.Edits.{edit_fault_of}
use Rattle.nd_notebook.specs.Together.{refused_of}
use Rattle.nd_desk.proofs.Gathered.{refused_words}
use Rattle.nd_desk.proofs.gather.push_refused.Goals as goal

pub returns : goal.returns
returns g c =
    let refused = c.args.refused in
    let words = λ (name : List ℕ). (((codes "refused " ++ decimal refused.number) ++ codes " ") ++ edit_fault_text (edit_fault_of name refused.fault)) ++ codes "\n" in
    pushes_same (ap words c.name_at.ensures ∙ refused_words (refused_of c.args.edits.now refused))
    (pushes_trans (pushes_trans (pushes_trans (pushes_trans c.push_text.ensures c.push_number.ensures) c.push_text-2.ensures) c.push_edit_fault.ensures) c.push_text-3.ensures)
