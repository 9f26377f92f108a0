use Rattle.std.proofs.Common.{rules}
use Rattle.nd_commands.proofs.Carried.{ended_by}
use Rattle.nd_commands.proofs.answerer.NotebookAnswererAnswerer.answer_end.Goals as goal

pub returns-then-is_some : goal.returns-then-is_some
returns-then-is_some g c = ended_by c.args.self.now.source.now _ _ _ (search rules) c.push_text.ensures
