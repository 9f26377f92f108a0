use Rattle.nd_script.proofs.lines.Answers.{pushes_trans}
use Rattle.nd_commands.proofs.answer.push_edit_refusal.Goals as goal

pub returns : goal.returns
returns g c = pushes_trans (pushes_trans c.push_text.ensures c.push_edit_fault.ensures) c.push_text-2.ensures
