use Rattle.std.proofs.Common.{refl}
use Rattle.nd_heap.proofs.Bases.{set_block}
use Rattle.nd_heap.proofs.blocks.put_block.Goals as goal

pub returns : goal.returns
returns c = set_block c.args.base c.args.block c.args.block.value c.args.blocks.now.entries c.args.blocks.now.entries c.insert.new.self.entries refl refl c.in_ok-insert.ensures.entries
