use Rattle.std.proofs.Common.{◌≡◌, Ok, length, ap, sym, ◌∙◌, ◌+◌, arith}
use Rattle.nd_model.specs.Book.Entries.{session_before}
use Rattle.nd_model.specs.Book.Renaming.{Told}
use Rattle.nd_model.specs.Book.Notebook.{Sheet, book_of}
use Rattle.nd_notebook.proofs.Asked.{not_told, result_told}
use Rattle.nd_notebook.proofs.notebook.Notebook.result.Goals as goal

pub returns-then-count-at : goal.returns-then-count-at
returns-then-count-at c =
    let many : c.count-count.result ≡ length c.args.self.now.cells = c.count-count.ensures ∙ ap (λ (s : Sheet). length s.cells) c.self.view_is in
    sym (not_told (λ (t : Told). Ok (record { text = t.text; refusal = t.refusal; saves = t.saves })) (book_of c.args.self.now) c.args.at c.count-count.result (omega arith) many)

pub returns : goal.returns
returns c =
    result_told c.args.self.now c.self.inside.schedule c.args.at c.record_at.result.now (session_before (book_of c.self.inside.schedule) (c.args.at + 1)) c.result.result.now
    c.self.view_is c.record_at.ensures.told c.result.ensures.text c.result.ensures.refusal c.result.ensures.saves
