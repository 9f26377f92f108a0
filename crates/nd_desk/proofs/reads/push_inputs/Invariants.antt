use Rattle.std.proofs.Common.{drop, map}
use Rattle.nd_script.specs.Lines.Answers.{AnswerState, Pushes}
use Rattle.nd_desk.specs.Answers.{input_lines}
use Rattle.nd_desk.proofs.reads.push_inputs.Given as goal

abbrev pub invariant-loop-name : goal.invariant-loop-name
invariant-loop-name g l =
    (end : AnswerState) → Pushes (g.O.AnswerWrite.state l.out) (input_lines (map (λ n. n.now) (drop l.name-index l.names))) end
    → Pushes (g.O.AnswerWrite.state l.fn.out) (input_lines (map (λ n. n.now) l.names)) end
