use Rattle.std.proofs.Common.{◌∙◌, ap}
use Rattle.nd_heap.specs.Values.{names_of}
use Rattle.nd_heap.proofs.NameLists.{names-remove}
use Rattle.nd_heap.proofs.names.remove.Goals as goal

pub returns : goal.returns
returns c = ap names_of c.shift_remove.ensures.entries ∙ names-remove c.args.name.now c.args.names.now.entries c.get_index_of.ensures.unique
