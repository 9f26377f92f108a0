use Rattle.std.proofs.Common.{◌∙◌, sym, ap}
use Rattle.nd_heap.specs.Contents.{bytes_in}
use Rattle.nd_heap.specs.Live.{bytes_at}
use Rattle.nd_heap.specs.Values.{base_of}
use Rattle.nd_heap.proofs.Bases.{same_block}
use Rattle.nd_heap.proofs.block_table.BlockTable.raise.Goals as goal

pub returns-in_ok-put_block-clause-bytes : goal.returns-in_ok-put_block-clause-bytes
returns-in_ok-put_block-clause-bytes c = c.in_ok-put_block.ensures.ok ∙ same_block (base_of c.args.base) c.in-Some.block.value (bytes_at c.args.self.now.blocks) (sym (ap bytes_in c.in-Some.is) ∙ c.in_ok-block.ensures)
