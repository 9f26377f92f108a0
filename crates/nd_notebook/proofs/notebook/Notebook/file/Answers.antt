use Rattle.nd_model.specs.Book.Notebook.{book_of}
use Rattle.nd_notebook.proofs.Asked.{save_not_told}
use Rattle.nd_notebook.proofs.notebook.Notebook.file.Goals as goal

pub returns-in-Err : goal.returns-in-Err
returns-in-Err c = save_not_told (book_of c.args.self.now) c.args.at c.args.name.now c.in-Err.fault c.in-Err.ensures
