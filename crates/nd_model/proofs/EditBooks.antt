-- An edit of the notebook that contracts see is an edit of its book.
use Rattle.std.proofs.Common.{refl}
use Rattle.nd_model.specs.Book.Book.{Insert, Change, Move, Remove, SetInput, DropInput, SetRule}
use Rattle.nd_model.specs.Book.Notebook.{EditsBook}
use Rattle.nd_model.proofs.Lists.{lookup-bind, lookup-unbind}

pub edits_book : EditsBook
edits_book (Insert at source) s = refl
edits_book (Change at source) s = refl
edits_book (Move from to) s = refl
edits_book (Remove at) s = refl
edits_book (SetInput name input) s = λ d. record { cells = s.cells; world = record { inputs = λ n. lookup-bind n name input s.given.inputs d; rule = s.given.rule } }
edits_book (DropInput name) s = λ d. record { cells = s.cells; world = record { inputs = λ n. lookup-unbind n name s.given.inputs d; rule = s.given.rule } }
edits_book (SetRule rule) s = refl
