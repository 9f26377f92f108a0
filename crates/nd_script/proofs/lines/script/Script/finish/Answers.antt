use Rattle.std.proofs.Common.{◌≡◌, ◌<◌, length, rules}
use Rattle.std.proofs.lemmas.Result.{err_from_is_err_and}
use Rattle.nd_script.proofs.lines.Progress.{at_end, no_bytes, finish_none, finish_some, finish_stopped}
use Rattle.nd_script.proofs.lines.script.Script.finish.Goals as goal
use Rattle.nd_script.proofs.lines.script.Script.finish.Goals.{then-not-is_empty+in_ok-end_line, else-not-is_empty}

pub returns-in_err-end_line-clause-err : goal.returns-in_err-end_line-clause-err
returns-in_err-end_line-clause-err g c =
    let some : 0 < length c.args.self.now.line.items = search rules in
    let p = err_from_is_err_and c.from_residual.result c.from_residual.ensures.1 in
    rw (p.1, p.2) (
    finish_stopped g.A.Answerer.language _ (g.A.Answerer.stage c.args.answerer.now) c.args.self.now.line.items (g.A.Answerer.state c.args.answerer.now) (g.A.Answerer.state c.end_line.new.answerer)
    (g.W.CountedWrite.contents c.args.writer.now) (g.W.CountedWrite.contents c.end_line.new.writer) c.requires some c.in_err-end_line.ensures.err
    )

pub returns-clause-ok : goal.returns-clause-ok
returns-clause-ok g c =
    elim c.if-not-is_empty.branch [
      | then-not-is_empty+in_ok-end_line w ↦
          let some : 0 < length c.args.self.now.line.items = search rules in
          let wrote = rw (w.answerer-is, w.writer-is) at c.answer_end.ensures.answer in
          rw w.answerer-is (finish_some g.A.Answerer.language g.met.A.Answerer.one_by_one c.answer_end.result (g.A.Answerer.stage c.args.answerer.now) (g.A.Answerer.stage w.end_line.new.answerer) c.args.self.now.line.items (g.A.Answerer.state c.args.answerer.now)
          (g.A.Answerer.state w.end_line.new.answerer) (g.W.CountedWrite.contents c.args.writer.now) (g.W.CountedWrite.contents w.end_line.new.writer) (g.W.CountedWrite.contents c.answer_end.new.writer)
          c.requires some w.in_ok-end_line.ensures.ok wrote).0
      | else-not-is_empty w ↦
          let zero : length c.args.self.now.line.items ≡ 0 = search rules in
          let none = no_bytes c.args.self.now.line.items zero in
          let wrote = rw (w.answerer-is, w.writer-is) at c.answer_end.ensures.answer in
          rw w.answerer-is (finish_none g.A.Answerer.language g.met.A.Answerer.one_by_one c.answer_end.result (g.A.Answerer.stage c.args.answerer.now) c.args.self.now.line.items (g.A.Answerer.state c.args.answerer.now)
          (g.W.CountedWrite.contents c.args.writer.now) (g.W.CountedWrite.contents c.answer_end.new.writer) none wrote).0
    ]

pub returns-clause-err : goal.returns-clause-err
returns-clause-err g c =
    elim c.if-not-is_empty.branch [
      | then-not-is_empty+in_ok-end_line w ↦
          let some : 0 < length c.args.self.now.line.items = search rules in
          let wrote = rw (w.answerer-is, w.writer-is) at c.answer_end.ensures.answer in
          rw w.answerer-is (at_end g.A.Answerer.language c.answer_end.result _ _ _ _ _ _ c.answer_end.ensures.fault (finish_some g.A.Answerer.language g.met.A.Answerer.one_by_one c.answer_end.result (g.A.Answerer.stage c.args.answerer.now) (g.A.Answerer.stage w.end_line.new.answerer) c.args.self.now.line.items (g.A.Answerer.state c.args.answerer.now)
          (g.A.Answerer.state w.end_line.new.answerer) (g.W.CountedWrite.contents c.args.writer.now) (g.W.CountedWrite.contents w.end_line.new.writer) (g.W.CountedWrite.contents c.answer_end.new.writer)
          c.requires some w.in_ok-end_line.ensures.ok wrote).1)
      | else-not-is_empty w ↦
          let zero : length c.args.self.now.line.items ≡ 0 = search rules in
          let none = no_bytes c.args.self.now.line.items zero in
          let wrote = rw (w.answerer-is, w.writer-is) at c.answer_end.ensures.answer in
          rw w.answerer-is (at_end g.A.Answerer.language c.answer_end.result _ _ _ _ _ _ c.answer_end.ensures.fault (finish_none g.A.Answerer.language g.met.A.Answerer.one_by_one c.answer_end.result (g.A.Answerer.stage c.args.answerer.now) c.args.self.now.line.items (g.A.Answerer.state c.args.answerer.now)
          (g.W.CountedWrite.contents c.args.writer.now) (g.W.CountedWrite.contents c.answer_end.new.writer) none wrote).1)
    ]
