use Rattle.std.proofs.Common.{◌∙◌}
use Rattle.nd_commands.specs.Noted.{noted_of}
use Rattle.nd_commands.specs.Source.{lines_so_far}
use Rattle.nd_desk.proofs.Carried.{bad_out, closed_text, closed_bytes}
use Rattle.nd_desk.proofs.line.close_try.Goals as goal

pub returns-in-Ok : goal.returns-in-Ok
returns-in-Ok g c =
    let utf8 = rw c.bytes.ensures at c.in-Ok.ensures.cases.1 in
    λ held. rw (closed_text c.args.at (lines_so_far c.args.text.now) c.in-Ok.source.now (c.in-Ok.ensures.cases.0 ∙ c.bytes.ensures) utf8) (c.try_cell.ensures held)

pub returns-in-Err : goal.returns-in-Err
returns-in-Err g c =
    let other = rw c.bytes.ensures at c.in-Err.ensures.cases.0 in
    λ held. rw (closed_bytes c.args.at (lines_so_far c.args.text.now) other) (bad_out (noted_of c.args.notebook.now c.args.meter.now held) _ _ c.push_text.ensures)
