use Rattle.std.proofs.Common.{◌≡◌, ◌≤◌, length, map, vec_capacity}
use Rattle.nd_notebook.specs.Edits.{edit_of, outcomes_of}
use Rattle.nd_notebook.proofs.Answered.{Leads}
use Rattle.nd_notebook.proofs.notebook.Notebook.apply_all.Given as goal

abbrev pub invariant-loop-edit : goal.invariant-loop-edit
invariant-loop-edit l = record {
  leads : Leads l.edits l.edit-index l.fn.self l.fn.meter (outcomes_of (map edit_of l.edits) l.answers.items) l.self l.meter;
  as_many : length l.answers.items ≡ l.edit-index;
  has_room : length l.edits ≤ vec_capacity l.answers;
}
