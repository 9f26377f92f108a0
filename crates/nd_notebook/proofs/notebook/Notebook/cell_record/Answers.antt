use Rattle.std.proofs.Common.{◌<◌, ◌∙◌, length, ap, subst, sym}
use Rattle.nd_model.specs.Book.Notebook.{Sheet, book_of}
use Rattle.nd_notebook.specs.Readers.{run_at}
use Rattle.nd_notebook.proofs.notebook.Notebook.cell_record.Goals as goal

pub record_at-requires : goal.record_at-requires
record_at-requires c = subst (λ (s : Sheet). c.args.at < length s.cells) (sym c.self.view_is) c.requires

pub returns : goal.returns
returns c = c.record_at.ensures.recorded ∙ ap (λ (s : Sheet). run_at (book_of s) c.args.at) c.self.view_is
