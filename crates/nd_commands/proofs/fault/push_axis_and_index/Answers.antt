use Rattle.std.proofs.Math.Facts.{to_z-of_z}
use Rattle.nd_script.proofs.lines.Answers.{pushes_trans}
use Rattle.nd_commands.proofs.fault.push_axis_and_index.Goals as goal

pub returns : goal.returns
returns g c = pushes_trans (pushes_trans (pushes_trans c.push_text.ensures c.push_number.ensures) c.push_text-2.ensures) (rw (to_z-of_z c.ranges.index) at c.push_integer.ensures)
