use Rattle.std.proofs.Common.{◌≡◌, length, map}
use Rattle.std.specs.Vec.Iter.{into_iter_items, into_iter_len}
use Rattle.nd_notebook.specs.SoFar.{so_far}
use Rattle.nd_notebook.specs.Together.{edited_all, owned_edit_of}
use Rattle.nd_notebook.proofs.Gathering.{NoneRefused}
use Rattle.nd_notebook.proofs.notebook.Notebook.gather.Given as goal

abbrev pub invariant-loop-edit : goal.invariant-loop-edit
invariant-loop-edit l = record {
  allowed : NoneRefused (map owned_edit_of (into_iter_items l.edit-iterator)) (so_far l.self l.gathered);
  leads : edited_all (map owned_edit_of (into_iter_items l.edit-iterator)) (so_far l.self l.gathered) ≡ edited_all (map owned_edit_of l.fn.edits.items) l.self;
  as_many : into_iter_len l.edit-iterator ≡ length (into_iter_items l.edit-iterator);
}
