use Rattle.std.proofs.Common.{◌∙◌, sym}
use Rattle.nd_heap.proofs.Held.{found_base}
use Rattle.nd_heap.proofs.blocks.has_base.Goals as goal

pub returns : goal.returns
returns c = c.contains_key.ensures ∙ sym (found_base c.args.base c.args.bases.now.entries)
