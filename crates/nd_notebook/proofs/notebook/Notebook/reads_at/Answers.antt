use Rattle.std.proofs.Common.{◌∙◌, ap}
use Rattle.nd_model.specs.Book.Records.{Record}
use Rattle.nd_session.specs.Session.Reads.{keys_of}
use Rattle.nd_notebook.proofs.notebook.Notebook.reads_at.Goals as goal

pub returns : goal.returns
returns c = ap keys_of c.reads.ensures ∙ ap (λ (r : Record). r.read) c.cell_record.ensures
