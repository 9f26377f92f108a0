use Rattle.std.proofs.Common.{◌≡◌, length, ap, sym, ◌∙◌, arith}
use Rattle.std.specs.Prelude.{slice_index_or}
use Rattle.nd_model.specs.Book.Book.{found_value}
use Rattle.nd_model.specs.Book.Book as model
use Rattle.nd_model.specs.Book.Notebook.{Sheet, book_of}
use Rattle.nd_notebook.proofs.Asked.{no_source, source_there}
use Rattle.nd_notebook.proofs.notebook.Notebook.source.Goals as goal

pub returns-then-count-at : goal.returns-then-count-at
returns-then-count-at c =
    let many : c.count-count.result ≡ length c.args.self.now.cells = c.count-count.ensures ∙ ap (λ (s : Sheet). length s.cells) c.self.view_is in
    sym (no_source (book_of c.args.self.now) c.args.at c.count-count.result (omega arith) many)

pub returns : goal.returns
returns c =
    let many : c.count-count.result ≡ length c.args.self.now.cells = c.count-count.ensures ∙ ap (λ (s : Sheet). length s.cells) c.self.view_is in
    sym (source_there (book_of c.args.self.now) c.args.at c.text.result.now (omega arith) (c.text.ensures ∙ ap (λ (s : Sheet). (slice_index_or s.cells c.args.at model.no_cell).source) c.self.view_is))
