use Rattle.std.proofs.Common.{◌+◌, drop, arith}
use Rattle.std.proofs.lemmas.Grind.{common_steps}
use Rattle.nd_index.specs.Items.Items.{items_of}
use Rattle.nd_index.proofs.items.Items.{none_common}
use Rattle.nd_index.proofs.items.common.common_shape.Goals as goal

pub returns-in-None : goal.returns-in-None
returns-in-None c = grind (arith, common_steps, none_common (items_of (drop (c.loop-item.item-index + 1) c.args.items.now)))
