use Rattle.std.proofs.Common.{[], map}
use Rattle.nd_model.specs.Book.Notebook.{book_of}
use Rattle.nd_notebook.specs.ReadsShown.{block_of}
use Rattle.nd_notebook.proofs.Listing.{Adds}
use Rattle.nd_notebook.proofs.ReadsTold.{BytesAt, LengthAt}
use Rattle.nd_notebook.proofs.notebook.Notebook.blocks_read.Given as goal

abbrev pub invariant-loop-place : goal.invariant-loop-place
invariant-loop-place l = Adds (BytesAt (book_of l.self) l.at l.reads) l.place [] (map block_of l.blocks.items)

abbrev pub invariant-loop-place-2 : goal.invariant-loop-place-2
invariant-loop-place-2 l = Adds (LengthAt (book_of l.self) l.at l.reads) l.place (map block_of l.initial.blocks.items) (map block_of l.blocks.items)
