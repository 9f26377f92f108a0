use Rattle.std.proofs.Common.{subst}
use Rattle.nd_model.specs.Book.Sessions.{IsOnce}
use Rattle.nd_heap.proofs.Layering.{once_of}
use Rattle.nd_heap.proofs.name_table.NameTable.distinctness.Goals as goal

pub returns : goal.returns
returns c = subst IsOnce c.self.view_is (once_of _ c.self.invariant.0)
