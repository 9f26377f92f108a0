use Rattle.std.proofs.Common.{◌≡◌, cond, take, []}
use Rattle.nd_model.specs.Arrays.Value as values
use Rattle.nd_heap.specs.Contents.{bases_of, blocks_of}
use Rattle.nd_heap.specs.Live.{bytes_at, is_base_among}
use Rattle.nd_heap.proofs.block_table.pick_blocks.Given as goal

abbrev pub invariant-loop-i : goal.invariant-loop-i
invariant-loop-i l = (b : values.Base) → bytes_at (blocks_of l.picked.entries) b ≡ cond (is_base_among (bases_of (take l.i l.bases.entries)) b) (bytes_at l.blocks.blocks b) []
