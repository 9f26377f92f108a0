use Rattle.std.proofs.Common.{rules}
use Rattle.nd_script.proofs.lines.Answers.{written, wrote_at}
use Rattle.nd_script.proofs.lines.Progress.{line_stopped}
use Rattle.nd_script.proofs.lines.script.Script.end_line.Goals as goal

pub returns-clause-err : goal.returns-clause-err
returns-clause-err g c =
    let done = rw c.deref.ensures.value at c.in_ok-answer_line.ensures.done in
    line_stopped g.A.Answerer.language g.met.A.Answerer.one_by_one c.finish.result (g.A.Answerer.stage c.args.answerer.now) c.args.self.now.line.items done.0 (g.A.Answerer.state c.args.answerer.now) (g.A.Answerer.state c.answer_line.new.self)
    (g.W.CountedWrite.contents c.args.writer.now) _ done.1.1 (wrote_at c.finish.result (written c.new-out.ensures done.2 c.finish.ensures.ends) (search rules)) c.finish.ensures.fault
