use Rattle.std.proofs.Common.{◌≡◌, ◌+◌, ◌≤◌, cond, take, []}
use Rattle.indexmap.specs.IndexMap.{spare}
use Rattle.nd_model.specs.Arrays.Value as values
use Rattle.nd_heap.specs.Contents.{bases_of, blocks_of}
use Rattle.nd_heap.specs.Layers.{without}
use Rattle.nd_heap.specs.Live.{bytes_at, is_base_among}
use Rattle.nd_heap.proofs.blocks.hide.Given as goal

abbrev pub invariant-loop-i : goal.invariant-loop-i
invariant-loop-i l = record {
  bytes : (b : values.Base) → bytes_at (without (bases_of l.gone.entries) (blocks_of l.blocks.entries)) b
      ≡ cond (is_base_among (bases_of (take l.i l.bases.entries)) b) [] (bytes_at (without (bases_of l.fn.gone.entries) (blocks_of l.blocks.entries)) b);
  room : spare l.fn.gone ≤ spare l.gone + l.i;
}
