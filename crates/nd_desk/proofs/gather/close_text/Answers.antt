use Rattle.std.proofs.Common.{◌∙◌}
use Rattle.nd_commands.specs.Source.{lines_so_far, opening_of}
use Rattle.nd_commands.proofs.Carried.{closed_text, closed_bytes}
use Rattle.nd_desk.proofs.Gathered.{gathers_by}
use Rattle.nd_desk.proofs.gather.close_text.Goals as goal

pub returns-in-Ok-clause-done : goal.returns-in-Ok-clause-done
returns-in-Ok-clause-done g c =
    let s = c.args.text.now in
    let utf8 = rw c.bytes.ensures at c.in-Ok.ensures.cases.1 in
    rw (closed_text (opening_of s.opening) (lines_so_far s) c.in-Ok.source.now (c.in-Ok.ensures.cases.0 ∙ c.bytes.ensures) utf8) (gathers_by c.keep_text.result _ _ c.keep_text.ensures)

pub returns-in-Err-clause-done : goal.returns-in-Err-clause-done
returns-in-Err-clause-done g c =
    let s = c.args.text.now in
    let other = rw c.bytes.ensures at c.in-Err.ensures.cases.0 in
    rw (closed_bytes (opening_of s.opening) (lines_so_far s) other) c.refuse_line.ensures
