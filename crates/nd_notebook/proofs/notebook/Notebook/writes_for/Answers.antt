use Rattle.std.proofs.Common.{refl, inl}
use Rattle.nd_model.specs.Book.Notebook.{book_of}
use Rattle.nd_heap.specs.Values.{base_of}
use Rattle.nd_notebook.specs.Readers.{run_at}
use Rattle.nd_notebook.proofs.ReadsTold.{writes_by}
use Rattle.nd_notebook.proofs.notebook.Notebook.writes_for.Goals as goal

pub returns-then-makes : goal.returns-then-makes
returns-then-makes c = (λ h. inl (c.makes.ensures.0 c.if-makes.true), λ h. refl)

pub returns : goal.returns
returns c =
    writes_by (run_at (book_of c.args.self.now) c.args.reader) (run_at (book_of c.args.self.now) c.args.at) c.reads_at.result.now c.changes_at.result.now (base_of c.args.base) c.makes.result c.reads_written.result
    c.reads_at.ensures c.changes_at.ensures.writes c.makes.ensures c.if-makes.false c.reads_written.ensures
