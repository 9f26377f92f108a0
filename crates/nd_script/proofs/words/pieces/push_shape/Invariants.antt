use Rattle.std.proofs.Common.{drop, map, ◌++◌}
use Rattle.std.specs.Prelude.{codes, decimal}
use Rattle.std.specs.List.{flat_map}
use Rattle.nd_model.specs.Book.Script.{shape_text}
use Rattle.nd_script.specs.Lines.Answers.{AnswerState, Pushes}
use Rattle.nd_script.proofs.words.pieces.push_shape.Given as goal

abbrev pub invariant-loop-n : goal.invariant-loop-n
invariant-loop-n g l =
    (end : AnswerState) → Pushes (g.O.AnswerWrite.state l.out) (flat_map (λ q. codes "," ++ q) (map decimal (drop l.n-index l.rest))) end
    → Pushes (g.O.AnswerWrite.state l.fn.out) (shape_text l.fn.shape) end
