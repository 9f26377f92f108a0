use Rattle.std.proofs.Common.{◌≡◌, ◌++◌, drop}
use Rattle.nd_model.specs.Arrays.Value as values
use Rattle.nd_heap.specs.Contents.{bases_of, blocks_of}
use Rattle.nd_heap.specs.Layers.{without}
use Rattle.nd_heap.specs.Live.{bytes_at}
use Rattle.nd_heap.proofs.blocks.stack.Given as goal

abbrev pub invariant-loop-i : goal.invariant-loop-i
invariant-loop-i l = (b : values.Base) → bytes_at (blocks_of l.all.entries) b ≡ bytes_at (blocks_of (drop l.i l.newer.entries) ++ without (bases_of l.gone.entries) (blocks_of l.older.entries)) b
