use Rattle.std.proofs.Common.{◌∙◌, ap}
use Rattle.nd_heap.specs.Values.{entries_of}
use Rattle.nd_heap.proofs.NameLists.{entries-remove}
use Rattle.nd_session.proofs.session.Ordering.{unit_at}
use Rattle.nd_session.proofs.session.order.note_unbound.Goals as goal

pub returns : goal.returns
returns c = ap (entries_of unit_at) c.shift_remove.ensures.entries ∙ entries-remove unit_at c.args.name.now c.args.names.now.entries c.get_index_of.ensures.unique
