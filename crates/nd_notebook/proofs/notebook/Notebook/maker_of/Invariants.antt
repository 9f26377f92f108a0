use Rattle.std.proofs.Common.{◌≡◌}
use Rattle.nd_model.specs.Book.Notebook.{book_of}
use Rattle.nd_heap.specs.Values.{base_of}
use Rattle.nd_notebook.specs.Readers.{run_at}
use Rattle.nd_notebook.proofs.LastPlaces.{HoldsNowhere}
use Rattle.nd_notebook.proofs.notebook.Notebook.maker_of.Given as goal

abbrev pub invariant-loop-place : goal.invariant-loop-place
invariant-loop-place l = HoldsNowhere (λ k. (base_of l.base).label ≡ (run_at (book_of l.self) k).label) l.place l.at
