use Rattle.std.proofs.Common.{drop, map, string_bytes}
use Rattle.nd_model.specs.Book.Script.{name_lines}
use Rattle.nd_script.specs.Lines.Answers.{AnswerState, Pushes}
use Rattle.nd_script.proofs.words.pieces.push_names.Given as goal

abbrev pub invariant-loop-name : goal.invariant-loop-name
invariant-loop-name g l =
    (end : AnswerState) → Pushes (g.O.AnswerWrite.state l.out) (name_lines (map string_bytes (drop l.name-index l.names))) end
    → Pushes (g.O.AnswerWrite.state l.fn.out) (name_lines (map string_bytes l.names)) end
