use Rattle.std.proofs.Common.{◌≡◌, ◌≤◌, ◌+◌, drop, false, length}
use Rattle.nd_model.specs.Cells.Session as model
use Rattle.nd_heap.specs.Layers.{overridden}
use Rattle.nd_heap.specs.Values.{base_of, names_of}
use Rattle.nd_heap.proofs.names.is_held_below.Given as goal

abbrev pub invariant-loop : goal.invariant-loop
invariant-loop l =
    (l.behind + l.counter ≤ length l.older.entries)
    × (model.is_held (base_of l.base) (overridden (names_of l.newer.entries) (names_of (drop l.behind l.older.entries))) ≡ false)
