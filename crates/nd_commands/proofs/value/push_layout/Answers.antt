use Rattle.nd_script.proofs.lines.Answers.{pushes_trans}
use Rattle.nd_commands.proofs.value.push_layout.Goals as goal

pub returns : goal.returns
returns g c = rw (← c.size.ensures.value) (pushes_trans (pushes_trans c.push_text.ensures c.push_text-2.ensures) c.push_number.ensures)
