use Rattle.nd_script.proofs.lines.Answers.{pushes_trans}
use Rattle.nd_commands.proofs.fault.push_place.Goals as goal

pub returns : goal.returns
returns g c = pushes_trans c.push_text.ensures c.push_number.ensures
