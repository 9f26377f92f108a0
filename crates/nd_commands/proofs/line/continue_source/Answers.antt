use Rattle.std.proofs.Common.{sym}
use Rattle.nd_commands.specs.Noted.{noted_of}
use Rattle.nd_commands.specs.Source.{lines_so_far, opening_of}
use Rattle.nd_commands.proofs.Carried.{closed_done}
use Rattle.nd_commands.proofs.line.continue_source.Goals as goal

pub returns-then-is_end_of_source-clause-done : goal.returns-then-is_end_of_source-clause-done
returns-then-is_end_of_source-clause-done g c =
    let s = c.args.source in
    closed_done (opening_of s.opening) (lines_so_far s) c.args.line.now (noted_of c.args.notebook.now c.args.meter.now c.args.ran.now.items)
    (noted_of c.close_source.new.notebook c.close_source.new.meter c.close_source.new.ran.items) _ _ (sym c.if-is_end_of_source.ensures) c.close_source.ensures
