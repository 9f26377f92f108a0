use Rattle.std.proofs.Common.{◌≡◌, ℕ, List, drop, unwrap_or}
use Rattle.nd_model.specs.Cells.Session.{lookup}
use Rattle.nd_session.specs.Session.Now.{value_now}
use Rattle.nd_session.proofs.session.change.patching.put_names.Given as goal

abbrev pub invariant-loop-i : goal.invariant-loop-i
invariant-loop-i l = (l.heap.blocks ≡ l.fn.heap.blocks) × ((n : List ℕ) → lookup n l.heap.names ≡ unwrap_or (value_now (drop l.i l.names.entries) n) (lookup n l.fn.heap.names))
