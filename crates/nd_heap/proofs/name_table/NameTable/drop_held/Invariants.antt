use Rattle.std.proofs.Common.{◌≡◌, ◌≤◌, ◌&&◌, not, take}
use Rattle.indexmap.specs.IndexMap.{index_map_len}
use Rattle.nd_model.specs.Cells.Session as model
use Rattle.nd_model.specs.Arrays.Value as values
use Rattle.nd_heap.specs.Contents.{bases_of}
use Rattle.nd_heap.specs.Live.{is_base_among}
use Rattle.nd_heap.proofs.name_table.NameTable.drop_held.Given as goal

abbrev pub invariant-loop-i : goal.invariant-loop-i
invariant-loop-i l = (index_map_len l.bases ≤ index_map_len l.fn.bases) × ((b : values.Base) → is_base_among (bases_of l.bases.entries) b ≡ (is_base_among (bases_of l.fn.bases.entries) b && not (model.is_held b (take l.i l.self))))
