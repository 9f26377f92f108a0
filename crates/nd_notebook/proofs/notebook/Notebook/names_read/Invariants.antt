use Rattle.std.proofs.Common.{[], map}
use Rattle.nd_model.specs.Book.Notebook.{book_of}
use Rattle.nd_notebook.specs.ReadsShown.{name_of}
use Rattle.nd_notebook.proofs.Listing.{Adds}
use Rattle.nd_notebook.proofs.ReadsTold.{NameAt}
use Rattle.nd_notebook.proofs.notebook.Notebook.names_read.Given as goal

abbrev pub invariant-loop-place : goal.invariant-loop-place
invariant-loop-place l = Adds (NameAt (book_of l.self) l.at l.reads) l.place [] (map name_of l.names.items)
