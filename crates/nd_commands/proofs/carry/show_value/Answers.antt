use Rattle.nd_model.specs.Book.Notebook.{book_of}
use Rattle.nd_notebook.specs.Queries.{bound_of}
use Rattle.nd_commands.proofs.Carried.{told_value}
use Rattle.nd_commands.proofs.carry.show_value.Goals as goal

pub returns-in-Ok : goal.returns-in-Ok
returns-in-Ok g c = told_value (book_of c.args.notebook.now) c.args.at c.args.name.now (bound_of c.in-Ok.value) _ _ c.in-Ok.ensures c.push_value.ensures
