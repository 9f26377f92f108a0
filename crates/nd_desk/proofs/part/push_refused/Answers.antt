use Rattle.nd_script.proofs.lines.Answers.{pushes_trans}
use Rattle.nd_desk.proofs.part.push_refused.Goals as goal

pub returns : goal.returns
returns g c = pushes_trans (pushes_trans c.push_text.ensures c.push_cell_fault.ensures) c.push_text-2.ensures
