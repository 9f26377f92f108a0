use Rattle.std.proofs.Common.{ap, ◌∙◌}
use Rattle.nd_model.specs.Book.Book.{Cell}
use Rattle.nd_model.specs.Book.Notebook.{Sheet}
use Rattle.nd_schedule.specs.Cells.Source.{cell_of}
use Rattle.nd_schedule.proofs.schedule.Editing.{label_at}
use Rattle.nd_schedule.proofs.schedule.notebook.Schedule.label.Goals as goal

pub returns : goal.returns
returns g c =
    ap (λ (x : Cell). x.label) (ap cell_of c.deref.ensures ∙ label_at c.args.self.now.cells c.self.inside.cells.items c.index.result.now c.args.at (ap (λ (s : Sheet). s.cells) c.self.view_is) c.requires c.index.ensures)
