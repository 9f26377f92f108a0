use Rattle.std.proofs.Common.{ap, ◌∙◌, string_bytes, arith}
use Rattle.std.proofs.lemmas.Grind.{common_steps}
use Rattle.nd_model.specs.Book.Book.{Cell}
use Rattle.nd_model.specs.Book.Notebook.{Sheet}
use Rattle.nd_schedule.specs.declared.cells.source.KeptCell.{KeptCell}
use Rattle.nd_schedule.proofs.schedule.Editing.{label_at}
use Rattle.nd_schedule.proofs.schedule.notebook.Schedule.cell_with.Goals as goal

pub returns-clause-label : goal.returns-clause-label
returns-clause-label g c =
    ap (λ (s : KeptCell). s.label) c.in_ok-cell.ensures.ok ∙ ap (λ (s : KeptCell). s.label) c.deref.ensures
    ∙ ap (λ (x : Cell). x.label) (label_at c.args.self.now.cells c.self.inside.cells.items c.index.result.now c.args.at (ap (λ (s : Sheet). s.cells) c.self.view_is) c.requires c.index.ensures)

pub returns-clause-text : goal.returns-clause-text
returns-clause-text g c = ap (λ (s : KeptCell). string_bytes s.text) c.in_ok-cell.ensures.ok ∙ c.in_ok-text.ensures.ok

pub index-requires : goal.index-requires
index-requires g c = grind (arith, common_steps)
