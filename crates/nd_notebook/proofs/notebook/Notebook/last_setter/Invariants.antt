use Rattle.nd_model.specs.Book.Notebook.{book_of}
use Rattle.nd_notebook.specs.Readers.{SetsName, run_at}
use Rattle.nd_notebook.proofs.LastPlaces.{HoldsNowhere}
use Rattle.nd_notebook.proofs.notebook.Notebook.last_setter.Given as goal

abbrev pub invariant-loop-place : goal.invariant-loop-place
invariant-loop-place l = HoldsNowhere (λ k. SetsName l.name (run_at (book_of l.self) k)) l.place l.at
