use Rattle.std.proofs.Common.{◌∙◌, ap, refl, sym}
use Rattle.nd_heap.specs.Contents.{bytes_in}
use Rattle.nd_heap.specs.Live.{bytes_at}
use Rattle.nd_heap.specs.Values.{base_of}
use Rattle.nd_heap.proofs.Bases.{set_block}
use Rattle.nd_heap.proofs.block_table.pick_block.Goals as goal

pub returns-in_ok-insert : goal.returns-in_ok-insert
returns-in_ok-insert c =
    set_block c.args.base c.in-Some.block (bytes_at c.args.blocks.now.blocks (base_of c.args.base)) c.args.picked.now.entries c.args.picked.now.entries c.insert.new.self.entries
    (sym (ap bytes_in c.in-Some.is) ∙ c.in_ok-block.ensures) refl c.in_ok-insert.ensures.entries
