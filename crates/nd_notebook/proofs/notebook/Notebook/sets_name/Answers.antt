use Rattle.std.proofs.Common.{◌↔◌, IsTrue, subst}
use Rattle.nd_model.specs.Book.Records.{Record}
use Rattle.nd_cell.specs.Records.{recorded}
use Rattle.nd_notebook.specs.Readers.{SetsName}
use Rattle.nd_notebook.proofs.Setters.{sets_by}
use Rattle.nd_notebook.proofs.notebook.Notebook.sets_name.Goals as goal

pub returns : goal.returns
returns c =
    subst (λ (r : Record). IsTrue c.is_some.result ↔ SetsName c.args.name.now r) c.cell_record.ensures
    (sets_by c.args.name.now (recorded c.cell_record.result.now).effects.events c.last_of.result c.is_some.result c.last_of.ensures c.is_some.ensures)
