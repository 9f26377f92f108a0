use Rattle.std.proofs.Common.{◌≡◌, drop, length, map, take}
use Rattle.nd_model.specs.Book.Notebook.{book_of}
use Rattle.nd_notebook.specs.Together.{edited_all, first_refused, owned_edit_of}
use Rattle.nd_notebook.proofs.notebook.Notebook.first_refused.Given as goal

abbrev pub invariant-loop-number : goal.invariant-loop-number
invariant-loop-number l = record {
  many : l.count ≡ length (edited_all (map owned_edit_of (take l.number l.edits)) l.self).cells;
  decides : first_refused 0 (map owned_edit_of l.edits) (book_of l.self)
      ≡ first_refused l.number (map owned_edit_of (drop l.number l.edits)) (book_of (edited_all (map owned_edit_of (take l.number l.edits)) l.self));
}
