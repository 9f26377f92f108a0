use Rattle.std.proofs.Common.{◌∙◌, sym, ap}
use Rattle.nd_model.specs.Cells.Session as model
use Rattle.nd_heap.specs.Loose.{HeapData}
use Rattle.nd_heap.proofs.heap.Heap.is_label_held.Goals as goal

pub returns : goal.returns
returns c = (
  λ f b own. sym (ap (λ (h : HeapData). model.is_held b h.names) c.self.view_is) ∙ c.is_label_held.ensures.0 f b own,
  λ h. c.is_label_held.ensures.1 (λ b own. ap (λ (h : HeapData). model.is_held b h.names) c.self.view_is ∙ h b own),
)
