use Rattle.nd_model.specs.Book.Notebook.{book_of}
use Rattle.nd_heap.specs.Values.{base_of}
use Rattle.nd_notebook.specs.Readers.{WritesFor, run_at}
use Rattle.nd_notebook.proofs.LastPlaces.{HoldsNowhere}
use Rattle.nd_notebook.proofs.notebook.Notebook.writer_of.Given as goal

abbrev pub invariant-loop-place : goal.invariant-loop-place
invariant-loop-place l = HoldsNowhere (λ k. WritesFor (run_at (book_of l.self) l.at) (base_of l.base) (run_at (book_of l.self) k)) l.place l.at
