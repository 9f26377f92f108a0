use Rattle.std.proofs.Math.Facts.{to_z-of_z}
use Rattle.nd_script.proofs.lines.Answers.{pushes_trans}
use Rattle.nd_commands.proofs.fault.push_out_of_bounds.Goals as goal

pub returns : goal.returns
returns g c =
    let first = rw (to_z-of_z c.ranges.index) at c.push_axis_and_index.ensures in
    pushes_trans (pushes_trans first c.push_text.ensures) c.push_number.ensures
