use Rattle.std.proofs.Common.{◌≡◌, ℕ, List, ◌++◌, length}
use Rattle.nd_script.specs.Lines.Run.{FitsLine, Runs}
use Rattle.nd_script.proofs.lines.script.Script.take_bytes.Given as goal

abbrev pub invariant-loop-end : goal.invariant-loop-end
invariant-loop-end g l = record {
  fits : FitsLine l.self.line.items;
  so_far : (taken : List ℕ) × (l.fn.bytes ≡ taken ++ l.rest)
      × Runs g.A.Answerer.language (g.A.Answerer.stage l.fn.answerer) l.fn.self.line.items taken (g.A.Answerer.stage l.answerer) l.self.line.items (g.A.Answerer.state l.fn.answerer) (g.W.CountedWrite.contents l.fn.writer) (g.W.CountedWrite.contents l.writer) (g.A.Answerer.state l.answerer);
  kept : g.W.CountedWrite.failures l.writer ≡ g.W.CountedWrite.failures l.fn.writer;
  same_reference : g.A.Answerer.reference l.answerer ≡ g.A.Answerer.reference l.fn.answerer;
  same_meter : g.A.Answerer.meter_reference l.answerer ≡ g.A.Answerer.meter_reference l.fn.answerer;
}

abbrev pub decreases-loop-end : goal.decreases-loop-end
decreases-loop-end g l = length l.rest
