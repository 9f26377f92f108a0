use Rattle.std.proofs.Common.{rules}
use Rattle.nd_commands.proofs.Plain.{counted_line}
use Rattle.nd_commands.proofs.answerer.NotebookAnswererAnswerer.answer_line.Goals as goal

pub returns-clause-done : goal.returns-clause-done
returns-clause-done g c =
    let counted = counted_line _ _ c.args.line.now _ _ _ _ c.in_ok-self.ensures.done in
    search rules
