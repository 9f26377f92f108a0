use Rattle.nd_commands.proofs.answer.push_edit_answer.Goals as goal

pub returns-in-Err : goal.returns-in-Err
returns-in-Err g c = rw c.in-Err.is c.push_edit_refusal.ensures
