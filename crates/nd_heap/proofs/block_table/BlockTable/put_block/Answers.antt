use Rattle.std.proofs.Common.{◌∙◌, ap}
use Rattle.nd_model.specs.Cells.Running as running
use Rattle.nd_heap.specs.Contents.{bases_of, blocks_of}
use Rattle.nd_heap.specs.Layers.{TableData, without}
use Rattle.nd_heap.specs.Live.{bytes_at}
use Rattle.nd_heap.specs.Sharing.{held_in}
use Rattle.nd_heap.specs.Values.{base_of}
use Rattle.nd_heap.proofs.Stacking.{put_newer}
use Rattle.nd_heap.proofs.block_table.BlockTable.put_block.Goals as goal

pub returns-clause-ok : goal.returns-clause-ok
returns-clause-ok c =
    put_newer c.args.base c.args.block c.self.inside.newer.entries c.insert.new.self.entries (without (bases_of c.self.inside.gone.entries) (blocks_of (held_in c.self.inside.shared).entries)) c.in_ok-insert.ensures.entries
    ∙ ap (λ (t : TableData). running.with_base (base_of c.args.base) c.args.block.value (bytes_at t.blocks)) c.self.view_is
