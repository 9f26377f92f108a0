use Rattle.std.proofs.Common.{sym, ◌∙◌, ap}
use Rattle.nd_heap.proofs.Bases.{found_block, found_bytes}
use Rattle.nd_heap.proofs.blocks.share_block.Goals as goal

pub returns-in_ok-clone-in-Some : goal.returns-in_ok-clone-in-Some
returns-in_ok-clone-in-Some c = c.in_ok-clone-in-Some.ensures.cases ∙ sym (found_block c.args.base c.args.blocks.now.entries ∙ ap found_bytes (sym c.in-Some.ensures.value))

pub returns-in-None : goal.returns-in-None
returns-in-None c = sym (found_block c.args.base c.args.blocks.now.entries ∙ ap found_bytes (sym c.in-None.ensures.value))
