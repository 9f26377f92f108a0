use Rattle.std.proofs.Common.{◌≡◌, ◌+◌, ℕ, List, [], Ok, map, length, ap, ◌∙◌, arith}
use Rattle.nd_model.specs.Book.Renaming.{Told, Shown}
use Rattle.nd_model.specs.Book.Notebook.{Sheet, book_of}
use Rattle.nd_model.specs.Book.Entries.{session_before}
use Rattle.nd_notebook.proofs.Asked.{names_are_told, names_told, not_told, wants_memory}
use Rattle.nd_notebook.proofs.notebook.Notebook.names.Goals as goal

pub returns-then-count-at : goal.returns-then-count-at
returns-then-count-at c =
    let many : c.count-count.result ≡ length c.args.self.now.cells = c.count-count.ensures ∙ ap (λ (s : Sheet). length s.cells) c.self.view_is in
    not_told (λ (t : Told). Ok (map (λ (e : List ℕ × Shown). e.0) t.names)) (book_of c.args.self.now) c.args.at c.count-count.result (omega arith) many

pub returns-in_err-order : goal.returns-in_err-order
returns-in_err-order c =
    let many : c.count-count.result ≡ length c.args.self.now.cells = c.count-count.ensures ∙ ap (λ (s : Sheet). length s.cells) c.self.view_is in
    wants_memory [] _ c.from_residual.result _ c.from_residual.ensures.1 (names_are_told (book_of c.args.self.now) c.args.at (omega arith))

pub returns-in_err-names_of : goal.returns-in_err-names_of
returns-in_err-names_of c =
    let many : c.count-count.result ≡ length c.args.self.now.cells = c.count-count.ensures ∙ ap (λ (s : Sheet). length s.cells) c.self.view_is in
    wants_memory [] _ c.from_residual-in_err-names_of.result _ c.from_residual-in_err-names_of.ensures.1 (names_are_told (book_of c.args.self.now) c.args.at (omega arith))

pub returns : goal.returns
returns c =
    let many : c.count-count.result ≡ length c.args.self.now.cells = c.count-count.ensures ∙ ap (λ (s : Sheet). length s.cells) c.self.view_is in
    names_told (book_of c.args.self.now) c.args.at _ (omega arith) (c.in_ok-names_of.ensures ∙ c.in_ok-order.ensures ∙ ap (λ (s : Sheet). map (λ e. e.0) (session_before (book_of s) (c.args.at + 1)).names) c.self.view_is)
