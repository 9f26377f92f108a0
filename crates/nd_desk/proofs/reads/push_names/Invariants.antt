use Rattle.std.proofs.Common.{drop, map}
use Rattle.nd_notebook.specs.ReadsShown.{name_of}
use Rattle.nd_script.specs.Lines.Answers.{AnswerState, Pushes}
use Rattle.nd_desk.specs.Answers.{name_lines}
use Rattle.nd_desk.proofs.reads.push_names.Given as goal

abbrev pub invariant-loop-read : goal.invariant-loop-read
invariant-loop-read g l =
    (end : AnswerState) → Pushes (g.O.AnswerWrite.state l.out) (name_lines (map name_of (drop l.read-index l.names))) end
    → Pushes (g.O.AnswerWrite.state l.fn.out) (name_lines (map name_of l.names)) end
