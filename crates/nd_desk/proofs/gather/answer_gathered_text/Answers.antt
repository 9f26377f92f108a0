use Rattle.std.proofs.Common.{ap, map, sym}
use Rattle.nd_notebook.specs.Together.{owned_edit_of}
use Rattle.nd_commands.specs.Source.{lines_so_far, opening_of}
use Rattle.nd_desk.proofs.Gathered.{closed_so, text_goes_on}
use Rattle.nd_desk.proofs.gather.answer_gathered_text.Goals as goal

pub returns-in_ok-source-clause-done : goal.returns-in_ok-source-clause-done
returns-in_ok-source-clause-done g c =
    closed_so (map owned_edit_of c.args.edits.items) (opening_of c.args.text.opening) (lines_so_far c.args.text) c.args.line.now _ _ _
    (sym c.if-is_end_of_source.ensures) c.in_ok-source.ensures.done

pub returns-in_ok-text-clause-done : goal.returns-in_ok-text-clause-done
returns-in_ok-text-clause-done g c =
    text_goes_on (map owned_edit_of c.args.edits.items) (opening_of c.args.text.opening) (opening_of c.in_ok-text.text.opening) (lines_so_far c.args.text) (lines_so_far c.in_ok-text.text)
    c.args.line.now _ (sym c.if-is_end_of_source.ensures) (ap opening_of c.in_ok-text.ensures.opening) c.in_ok-text.ensures.lines
