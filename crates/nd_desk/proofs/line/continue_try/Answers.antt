use Rattle.std.proofs.Common.{sym}
use Rattle.nd_commands.specs.Noted.{noted_of}
use Rattle.nd_commands.specs.Source.{lines_so_far}
use Rattle.nd_desk.proofs.Plainly.{try_closed, try_goes_on}
use Rattle.nd_desk.proofs.line.continue_try.Goals as goal

pub returns-then-is_end_of_source-clause-done : goal.returns-then-is_end_of_source-clause-done
returns-then-is_end_of_source-clause-done g c = λ held.
    try_closed c.args.at (lines_so_far c.args.text) c.args.line.now (noted_of c.args.notebook.now c.args.meter.now held) (noted_of c.args.notebook.now c.close_try.new.meter held)
    _ _ (sym c.if-is_end_of_source.ensures) (c.close_try.ensures held)

pub returns-in_ok-text-clause-done : goal.returns-in_ok-text-clause-done
returns-in_ok-text-clause-done g c = λ held.
    try_goes_on c.args.at (lines_so_far c.args.text) (lines_so_far c.in_ok-text.text) c.args.line.now (noted_of c.args.notebook.now c.args.meter.now held) _
    (sym c.if-is_end_of_source.ensures) c.in_ok-text.ensures.lines
