use Rattle.std.proofs.Common.{arith}
use Rattle.std.proofs.lemmas.Bool.{iff_false}
use Rattle.nd_model.specs.Book.Notebook.{book_of}
use Rattle.nd_notebook.specs.Readers.{SetsName, run_at}
use Rattle.nd_notebook.proofs.LastPlaces.{found_nowhere, last_found, nowhere_at_end, nowhere_more}
use Rattle.nd_notebook.proofs.notebook.Notebook.last_setter.Goals as goal

pub loop-place-init : goal.loop-place-init
loop-place-init c = nowhere_at_end (λ k. SetsName c.args.name.now (run_at (book_of c.args.self.now) k)) c.args.at

pub returns-then-sets_name : goal.returns-then-sets_name
returns-then-sets_name c = last_found (λ k. SetsName c.args.name.now (run_at (book_of c.args.self.now) k)) c.loop-place.place c.args.at (omega arith) (omega arith) (c.sets_name.ensures.0 c.if-sets_name.true) c.loop-place.invariant

pub loop-place-preserved : goal.loop-place-preserved
loop-place-preserved c = nowhere_more (λ k. SetsName c.args.name.now (run_at (book_of c.args.self.now) k)) c.loop-place.place c.args.at (omega arith) (iff_false c.sets_name.ensures c.if-sets_name.false) c.loop-place.invariant

pub returns : goal.returns
returns c = found_nowhere (λ k. SetsName c.args.name.now (run_at (book_of c.args.self.now) k)) c.loop-place.place c.args.at (omega arith) c.loop-place.invariant
