use Rattle.std.proofs.Common.{subst}
use Rattle.nd_model.specs.Book.Sessions.{IsOnce}
use Rattle.nd_heap.specs.Loose.{HeapData}
use Rattle.nd_heap.proofs.heap.Heap.distinctness.Goals as goal

pub returns : goal.returns
returns c = subst (λ (h : HeapData). IsOnce h.names) c.self.view_is c.distinctness.ensures
