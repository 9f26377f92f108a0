use Rattle.std.proofs.Common.{sym}
use Rattle.nd_script.specs.Words.Command.{line_of}
use Rattle.nd_commands.specs.Noted.{noted_of}
use Rattle.nd_commands.proofs.Openings.{not_opening}
use Rattle.nd_commands.proofs.Carried.{done_whole}
use Rattle.nd_commands.proofs.line.answer_command.Goals as goal

pub returns-in_default-clause-done : goal.returns-in_default-clause-done
returns-in_default-clause-done g c =
    let command = c.in_ok-command.command in
    let opens = not_opening command c.in_default.not-Insert c.in_default.not-Edit in
    done_whole (line_of command) c.args.line.now (noted_of c.args.notebook.now c.args.meter.now c.args.ran.now.items)
    (noted_of c.answer_whole.new.notebook c.answer_whole.new.meter c.answer_whole.new.ran.items) _ _ (sym c.in_ok-command.ensures) opens c.answer_whole.ensures
