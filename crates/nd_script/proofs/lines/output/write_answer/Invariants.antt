use Rattle.std.proofs.Common.{◌≡◌, ℕ, List, ◌++◌, length}
use Rattle.std.specs.Io.KnownBytes.{Appends}
use Rattle.nd_script.proofs.lines.output.write_answer.Given as goal

abbrev pub invariant-loop-rest : goal.invariant-loop-rest
invariant-loop-rest g l = record {
  so_far : (front : List ℕ) × (l.fn.answer ≡ front ++ l.rest) × Appends (g.W.CountedWrite.contents l.fn.writer) (g.W.CountedWrite.contents l.writer) front;
  kept : g.W.CountedWrite.failures l.writer ≡ g.W.CountedWrite.failures l.fn.writer;
}

abbrev pub decreases-loop-rest : goal.decreases-loop-rest
decreases-loop-rest g l = length l.rest
