use Rattle.nd_model.proofs.Books.{any_book_labels}
use Rattle.nd_model.proofs.any_book_labels.Goals as goal

pub returns : goal.returns
returns c = any_book_labels
