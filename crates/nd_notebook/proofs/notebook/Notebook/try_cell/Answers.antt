use Rattle.std.proofs.Common.{◌≡◌, length, ap, ◌∙◌, arith}
use Rattle.nd_model.specs.Book.Book.{Insert}
use Rattle.nd_model.specs.Book.Entries.{entry_at, record_at}
use Rattle.nd_model.specs.Book.Notebook.{Sheet, book_of, edited_sheet}
use Rattle.nd_notebook.proofs.Tried.{memory_told, told_by}
use Rattle.nd_notebook.proofs.notebook.Notebook.try_cell.Goals as goal

pub returns-in_err-made-clause-told : goal.returns-in_err-made-clause-told
returns-in_err-made-clause-told c =
    let many : c.count-count.result ≡ length c.args.self.now.cells = c.count-count.ensures in
    memory_told c.args.self.now c.args.at c.args.source.now (omega arith) (omega arith) c.from_residual.result c.from_residual.ensures.1

pub returns-clause-told : goal.returns-clause-told
returns-clause-told c =
    let many : c.count-count.result ≡ length c.args.self.now.cells = c.count-count.ensures in
    told_by c.args.self.now c.args.at c.args.source.now (omega arith) (omega arith) (record { made = c.in_ok-made.made })
    (c.in_ok-made.ensures.made ∙ ap (λ (s : Sheet). record_at (book_of s).world (entry_at (book_of (edited_sheet (Insert c.args.at c.args.source.now) s)) c.args.at)) c.self.view_is)
