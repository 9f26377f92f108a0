use Rattle.nd_model.proofs.EditBooks.{edits_book}
use Rattle.nd_model.proofs.edits_book.Goals as goal

pub returns : goal.returns
returns c = edits_book
