use Rattle.std.proofs.Common.{◌≡◌, arith}
use Rattle.std.proofs.lemmas.Bool.{iff_false}
use Rattle.nd_model.specs.Book.Notebook.{book_of}
use Rattle.nd_heap.specs.Values.{base_of}
use Rattle.nd_notebook.specs.Readers.{run_at}
use Rattle.nd_notebook.proofs.LastPlaces.{found_nowhere, last_found, nowhere_at_end, nowhere_more}
use Rattle.nd_notebook.proofs.notebook.Notebook.maker_of.Goals as goal

pub loop-place-init : goal.loop-place-init
loop-place-init c = nowhere_at_end (λ k. (base_of c.args.base).label ≡ (run_at (book_of c.args.self.now) k).label) c.args.at

pub returns-then-makes : goal.returns-then-makes
returns-then-makes c = last_found (λ k. (base_of c.args.base).label ≡ (run_at (book_of c.args.self.now) k).label) c.loop-place.place c.args.at (omega arith) (omega arith) (c.makes.ensures.0 c.if-makes.true) c.loop-place.invariant

pub loop-place-preserved : goal.loop-place-preserved
loop-place-preserved c = nowhere_more (λ k. (base_of c.args.base).label ≡ (run_at (book_of c.args.self.now) k).label) c.loop-place.place c.args.at (omega arith) (iff_false c.makes.ensures c.if-makes.false) c.loop-place.invariant

pub returns : goal.returns
returns c = found_nowhere (λ k. (base_of c.args.base).label ≡ (run_at (book_of c.args.self.now) k).label) c.loop-place.place c.args.at (omega arith) c.loop-place.invariant
