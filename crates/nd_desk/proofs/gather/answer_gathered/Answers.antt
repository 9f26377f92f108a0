use Rattle.std.proofs.Common.{map, sym}
use Rattle.nd_notebook.specs.Together.{owned_edit_of}
use Rattle.nd_script.specs.Words.Command.{line_of}
use Rattle.nd_commands.specs.Noted.{noted_of}
use Rattle.nd_desk.proofs.Gathered.{ended_together, gathered_so}
use Rattle.nd_desk.proofs.gather.answer_gathered.Goals as goal

pub returns-then-is_end_of_edits-clause-done : goal.returns-then-is_end_of_edits-clause-done
returns-then-is_end_of_edits-clause-done g c =
    ended_together (map owned_edit_of c.args.edits.items) c.args.line.now (noted_of c.args.notebook.now c.args.meter.now c.args.ran.now.items)
    (noted_of c.make_together.new.notebook c.make_together.new.meter c.make_together.new.ran.items) _ _ (sym c.if-is_end_of_edits.ensures) c.make_together.ensures

pub returns-clause-done : goal.returns-clause-done
returns-clause-done g c =
    gathered_so (map owned_edit_of c.args.edits.items) c.args.line.now (line_of c.in_ok-command.command) _ (noted_of c.args.notebook.now c.args.meter.now c.args.ran.now.items) _ _
    (sym c.if-is_end_of_edits.ensures) c.in_ok-command.ensures c.in_ok-source.ensures.done
