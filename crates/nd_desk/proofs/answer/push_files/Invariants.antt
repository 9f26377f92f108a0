use Rattle.nd_notebook.specs.Results.{saves_of}
use Rattle.nd_script.specs.Lines.Answers.{AnswerState, Pushes}
use Rattle.nd_desk.specs.Answers.{file_lines}
use Rattle.nd_desk.proofs.answer.push_files.Given as goal

abbrev pub invariant-loop-name : goal.invariant-loop-name
invariant-loop-name g l =
    (end : AnswerState) → Pushes (g.O.AnswerWrite.state l.out) (file_lines (saves_of l.name-iterator)) end
    → Pushes (g.O.AnswerWrite.state l.fn.out) (file_lines (saves_of l.fn.saves.entries)) end
