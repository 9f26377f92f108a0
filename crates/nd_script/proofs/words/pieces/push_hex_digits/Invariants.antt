use Rattle.std.proofs.Common.{◌≡◌, ℕ, List, ◌++◌, length}
use Rattle.nd_model.specs.Book.Script.{hex_digits}
use Rattle.nd_script.specs.Lines.Answers.{Pushes}
use Rattle.nd_script.proofs.words.pieces.push_hex_digits.Given as goal

abbrev pub invariant-loop-rest : goal.invariant-loop-rest
invariant-loop-rest g l = (front : List ℕ) × (l.fn.bytes ≡ front ++ l.rest) × Pushes (g.O.AnswerWrite.state l.fn.out) (hex_digits front) (g.O.AnswerWrite.state l.out)

abbrev pub decreases-loop-rest : goal.decreases-loop-rest
decreases-loop-rest g l = length l.rest
