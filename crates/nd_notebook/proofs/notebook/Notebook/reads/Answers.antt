use Rattle.std.proofs.Common.{refl, arith}
use Rattle.nd_model.specs.Book.Notebook.{book_of}
use Rattle.nd_notebook.proofs.ReadsTold.{reads_wanted}
use Rattle.nd_notebook.proofs.notebook.Notebook.reads.Goals as goal

pub returns-then-count-at : goal.returns-then-count-at
returns-then-count-at c = (omega arith, refl, c.count-count.ensures)

pub returns-in_err-names : goal.returns-in_err-names
returns-in_err-names c = reads_wanted (book_of c.args.self.now) c.args.at c.from_residual.result (omega arith) c.from_residual.ensures.1

pub returns-in_err-inputs : goal.returns-in_err-inputs
returns-in_err-inputs c = reads_wanted (book_of c.args.self.now) c.args.at c.from_residual-in_err-inputs.result (omega arith) c.from_residual-in_err-inputs.ensures.1

pub returns-in_err-blocks : goal.returns-in_err-blocks
returns-in_err-blocks c = reads_wanted (book_of c.args.self.now) c.args.at c.from_residual-in_err-blocks.result (omega arith) c.from_residual-in_err-blocks.ensures.1

pub returns : goal.returns
returns c = (
  omega arith,
  record {
    names = c.in_ok-names.ensures;
    inputs = c.in_ok-inputs.ensures;
    blocks = c.in_ok-blocks.ensures;
  },
)
