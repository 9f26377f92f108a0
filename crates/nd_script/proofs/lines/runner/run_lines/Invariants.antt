use Rattle.std.proofs.Common.{◌≡◌, ℕ, List, []}
use Rattle.std.specs.Io.KnownBytes.{Consumes}
use Rattle.nd_script.specs.Lines.Ends.{counted_on}
use Rattle.nd_script.specs.Lines.Run.{FitsLine, Runs}
use Rattle.nd_script.proofs.lines.runner.run_lines.Given as goal

abbrev pub invariant-loop-turn : goal.invariant-loop-turn
invariant-loop-turn g l = record {
  fits : FitsLine l.script.line.items;
  so_far : (given : List ℕ) × Consumes (g.R.CountedRead.remaining l.fn.reader) (g.R.CountedRead.remaining l.reader) given
      × Runs g.A.Answerer.language (g.A.Answerer.stage l.fn.answerer) [] given (g.A.Answerer.stage l.answerer) l.script.line.items (g.A.Answerer.state l.fn.answerer) (g.W.CountedWrite.contents l.fn.writer) (g.W.CountedWrite.contents l.writer) (g.A.Answerer.state l.answerer);
  turn : g.R.CountedRead.reads l.reader ≡ counted_on (g.R.CountedRead.reads l.fn.reader) l._turn;
  reader_kept : g.R.CountedRead.failures l.reader ≡ g.R.CountedRead.failures l.fn.reader;
  writer_kept : g.W.CountedWrite.failures l.writer ≡ g.W.CountedWrite.failures l.fn.writer;
  same_reference : g.A.Answerer.reference l.answerer ≡ g.A.Answerer.reference l.fn.answerer;
  same_meter : g.A.Answerer.meter_reference l.answerer ≡ g.A.Answerer.meter_reference l.fn.answerer;
}
