use Rattle.std.proofs.Common.{◌∙◌, ap}
use Rattle.nd_model.specs.Book.Records.{Record}
use Rattle.nd_session.specs.Session.Changes.{ChangesData, writes_in}
use Rattle.nd_notebook.proofs.notebook.Notebook.changes_at.Goals as goal

pub returns-clause-label : goal.returns-clause-label
returns-clause-label c = ap (λ (d : ChangesData). d.label) c.changes.ensures ∙ ap (λ (r : Record). r.label) c.cell_record.ensures

pub returns-clause-writes : goal.returns-clause-writes
returns-clause-writes c = ap writes_in c.changes.ensures ∙ ap (λ (r : Record). r.effects.writes) c.cell_record.ensures
