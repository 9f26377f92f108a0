use Rattle.std.proofs.Common.{◌≡◌, ◌||◌, ℕ, eqb, List, sym, ap, ap₂, ◌∙◌, string_bytes, arith}
use Rattle.std.proofs.lemmas.Grind.{common_steps}
use Rattle.nd_model.specs.Book.Book.{Cell, is_label}
use Rattle.nd_model.specs.Book.Book as book
use Rattle.nd_model.specs.Book.Notebook.{Sheet}
use Rattle.nd_schedule.specs.declared.cells.source.KeptCell.{KeptCell}
use Rattle.nd_schedule.specs.Cells.Source.{cells_of}
use Rattle.nd_schedule.proofs.schedule.notebook.Schedule.new_cell.Goals as goal

pub returns-clause-label : goal.returns-clause-label
returns-clause-label g c =
    ap (λ (s : KeptCell). s.label) c.in_ok-cell.ensures.ok ∙ c.in_ok-label.ensures.label ∙ ap book.fresh_label (ap cells_of c.deref.ensures.value ∙ ap (λ (s : Sheet). s.cells) c.self.view_is)

pub returns-clause-text : goal.returns-clause-text
returns-clause-text g c = ap (λ (s : KeptCell). string_bytes s.text) c.in_ok-cell.ensures.ok ∙ c.in_ok-text.ensures.ok

pub returns-clause-next : goal.returns-clause-next
returns-clause-next g c = λ n lt.
    let shown : ◌≡◌ {A = List Cell} (cells_of c.deref.result.now) c.args.self.now.cells = ap cells_of c.deref.ensures.value ∙ ap (λ (s : Sheet). s.cells) c.self.view_is in
    let named : c.in_ok-label.field-0.label ≡ c.in_ok-cell.cell.value.label = sym (ap (λ (s : KeptCell). s.label) c.in_ok-cell.ensures.ok) in
    sym (ap₂ (λ (cs : List Cell) (l : ℕ). is_label n cs || eqb n l) shown named) ∙ c.in_ok-label.ensures.next n lt

pub fresh_label-requires : goal.fresh_label-requires
fresh_label-requires g c = grind (arith, common_steps)
