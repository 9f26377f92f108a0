use Rattle.std.proofs.Common.{◌≡◌, length, ap, sym, ◌∙◌, ◌+◌, arith, is_some}
use Rattle.nd_model.specs.Cells.Session.{lookup}
use Rattle.nd_model.specs.Book.Entries.{session_before}
use Rattle.nd_model.specs.Book.Renaming.{Told, shown}
use Rattle.nd_model.specs.Book.Book.{found_value}
use Rattle.nd_model.specs.Book.Notebook.{Sheet, book_of}
use Rattle.nd_session.specs.Session.Kept.{version_of}
use Rattle.nd_heap.specs.Values.{value_of}
use Rattle.nd_notebook.specs.Queries.{bound_of}
use Rattle.nd_notebook.proofs.Asked.{no_value, not_told, unbound_value, value_is_told, value_told, wants_memory}
use Rattle.nd_notebook.proofs.notebook.Notebook.value.Goals as goal

pub returns-then-count-at : goal.returns-then-count-at
returns-then-count-at c =
    let many : c.count-count.result ≡ length c.args.self.now.cells = c.count-count.ensures ∙ ap (λ (s : Sheet). length s.cells) c.self.view_is in
    not_told (λ (t : Told). found_value c.args.name.now (lookup c.args.name.now t.names)) (book_of c.args.self.now) c.args.at c.count-count.result (omega arith) many

pub returns-then-not-is_bound : goal.returns-then-not-is_bound
returns-then-not-is_bound c =
    let many : c.count-count.result ≡ length c.args.self.now.cells = c.count-count.ensures ∙ ap (λ (s : Sheet). length s.cells) c.self.view_is in
    let told : c.is_bound.result ≡ is_some (lookup c.args.name.now (session_before (book_of c.args.self.now) (c.args.at + 1)).names)
    = c.is_bound.ensures ∙ ap (λ (s : Sheet). is_some (lookup c.args.name.now (session_before (book_of s) (c.args.at + 1)).names)) c.self.view_is in
    unbound_value (book_of c.args.self.now) c.args.at c.args.name.now (omega arith) (sym told ∙ c.if-not-is_bound.true)

pub returns-in_err-version : goal.returns-in_err-version
returns-in_err-version c =
    let many : c.count-count.result ≡ length c.args.self.now.cells = c.count-count.ensures ∙ ap (λ (s : Sheet). length s.cells) c.self.view_is in
    let told : c.is_bound.result ≡ is_some (lookup c.args.name.now (session_before (book_of c.args.self.now) (c.args.at + 1)).names)
    = c.is_bound.ensures ∙ ap (λ (s : Sheet). is_some (lookup c.args.name.now (session_before (book_of s) (c.args.at + 1)).names)) c.self.view_is in
    wants_memory c.args.name.now bound_of c.from_residual.result _ c.from_residual.ensures.1
    (value_is_told (book_of c.args.self.now) c.args.at c.args.name.now (omega arith) (sym told ∙ c.if-not-is_bound.false))

pub returns-in_err-value-in-Some : goal.returns-in_err-value-in-Some
returns-in_err-value-in-Some c =
    let many : c.count-count.result ≡ length c.args.self.now.cells = c.count-count.ensures ∙ ap (λ (s : Sheet). length s.cells) c.self.view_is in
    let told : c.is_bound.result ≡ is_some (lookup c.args.name.now (session_before (book_of c.args.self.now) (c.args.at + 1)).names)
    = c.is_bound.ensures ∙ ap (λ (s : Sheet). is_some (lookup c.args.name.now (session_before (book_of s) (c.args.at + 1)).names)) c.self.view_is in
    wants_memory c.args.name.now bound_of c.from_residual-in_err-value-in-Some.result _ c.from_residual-in_err-value-in-Some.ensures.1
    (value_is_told (book_of c.args.self.now) c.args.at c.args.name.now (omega arith) (sym told ∙ c.if-not-is_bound.false))

pub returns-in-None : goal.returns-in-None
returns-in-None c =
    let many : c.count-count.result ≡ length c.args.self.now.cells = c.count-count.ensures ∙ ap (λ (s : Sheet). length s.cells) c.self.view_is in
    no_value (book_of c.args.self.now) c.args.at c.args.name.now (version_of c.in_ok-version.version) (omega arith) c.in_ok-version.ensures c.in-None.ensures

pub returns : goal.returns
returns c =
    let many : c.count-count.result ≡ length c.args.self.now.cells = c.count-count.ensures ∙ ap (λ (s : Sheet). length s.cells) c.self.view_is in
    value_told (book_of c.args.self.now) c.args.at c.args.name.now (version_of c.in_ok-version.version) (value_of c.in-Some.value.now) _
    (omega arith) c.in_ok-version.ensures c.in-Some.ensures (ap (shown (version_of c.in_ok-version.version)) c.in_ok-value-in-Some.ensures)
