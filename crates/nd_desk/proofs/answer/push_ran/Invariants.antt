use Rattle.std.proofs.Common.{◌++◌, drop, length}
use Rattle.std.specs.Prelude.{codes, decimal}
use Rattle.nd_script.specs.Lines.Answers.{AnswerState, Pushes}
use Rattle.nd_desk.specs.Answers.{place_words}
use Rattle.nd_desk.proofs.answer.push_ran.Given as goal

abbrev pub invariant-loop-place : goal.invariant-loop-place
invariant-loop-place g l =
    (end : AnswerState) → Pushes (g.O.AnswerWrite.state l.out) (place_words (drop l.place-index l.ran)) end
    → Pushes (g.O.AnswerWrite.state l.fn.out) (codes "ran " ++ decimal (length l.ran) ++ place_words l.ran) end
