use Rattle.std.proofs.Common.{arith}
use Rattle.std.proofs.lemmas.Bool.{iff_false}
use Rattle.nd_model.specs.Book.Notebook.{book_of}
use Rattle.nd_heap.specs.Values.{base_of}
use Rattle.nd_notebook.specs.Readers.{WritesFor, run_at}
use Rattle.nd_notebook.proofs.LastPlaces.{found_nowhere, last_found, nowhere_at_end, nowhere_more}
use Rattle.nd_notebook.proofs.notebook.Notebook.writer_of.Goals as goal

pub loop-place-init : goal.loop-place-init
loop-place-init c = nowhere_at_end (λ k. WritesFor (run_at (book_of c.args.self.now) c.args.at) (base_of c.args.base) (run_at (book_of c.args.self.now) k)) c.args.at

pub returns-then-writes_for : goal.returns-then-writes_for
returns-then-writes_for c = last_found (λ k. WritesFor (run_at (book_of c.args.self.now) c.args.at) (base_of c.args.base) (run_at (book_of c.args.self.now) k)) c.loop-place.place c.args.at (omega arith) (omega arith) (c.writes_for.ensures.0 c.if-writes_for.true) c.loop-place.invariant

pub loop-place-preserved : goal.loop-place-preserved
loop-place-preserved c = nowhere_more (λ k. WritesFor (run_at (book_of c.args.self.now) c.args.at) (base_of c.args.base) (run_at (book_of c.args.self.now) k)) c.loop-place.place c.args.at (omega arith) (iff_false c.writes_for.ensures c.if-writes_for.false) c.loop-place.invariant

pub returns : goal.returns
returns c = found_nowhere (λ k. WritesFor (run_at (book_of c.args.self.now) c.args.at) (base_of c.args.base) (run_at (book_of c.args.self.now) k)) c.loop-place.place c.args.at (omega arith) c.loop-place.invariant
