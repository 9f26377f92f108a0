use Rattle.std.proofs.Common.{rules}
use Rattle.nd_script.proofs.lines.Answers.{written, wrote_at}
use Rattle.nd_script.proofs.lines.script.answer_end.Goals as goal

pub returns-clause-answer : goal.returns-clause-answer
returns-clause-answer g c =
    let ended = c.answer_end.ensures in
    (ended.0, ended.1, wrote_at c.finish.result (written c.new-out.ensures ended.2 c.finish.ensures.ends) (search rules))
