use Rattle.std.proofs.Common.{drop, map}
use Rattle.nd_notebook.specs.ReadsShown.{block_of}
use Rattle.nd_script.specs.Lines.Answers.{AnswerState, Pushes}
use Rattle.nd_desk.specs.Answers.{block_lines}
use Rattle.nd_desk.proofs.reads.push_blocks.Given as goal

abbrev pub invariant-loop-read : goal.invariant-loop-read
invariant-loop-read g l =
    (end : AnswerState) → Pushes (g.O.AnswerWrite.state l.out) (block_lines (map block_of (drop l.read-index l.blocks))) end
    → Pushes (g.O.AnswerWrite.state l.fn.out) (block_lines (map block_of l.blocks)) end
