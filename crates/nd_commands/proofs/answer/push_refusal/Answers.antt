use Rattle.nd_script.proofs.lines.Answers.{pushes_trans}
use Rattle.nd_commands.proofs.answer.push_refusal.Goals as goal

pub returns : goal.returns
returns g c = rw c.in-Some.is (pushes_trans (pushes_trans c.push_text-2.ensures (pushes_trans (pushes_trans c.push_number.ensures c.push_text-3.ensures) c.push_cell_fault.ensures)) c.push_text-4.ensures)
