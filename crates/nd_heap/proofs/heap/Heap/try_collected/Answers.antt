use Rattle.std.proofs.Common.{◌∙◌, [], cond, ap}
use Rattle.nd_model.specs.Cells.Session as model
use Rattle.nd_heap.specs.Live.{bytes_at}
use Rattle.nd_heap.specs.Loose.{HeapData}
use Rattle.nd_heap.proofs.heap.Heap.try_collected.Goals as goal

pub returns-in-Ok-clause-names : goal.returns-in-Ok-clause-names
returns-in-Ok-clause-names c = c.settle.ensures.names ∙ c.collect.ensures.names ∙ ap (λ (h : HeapData). h.names) c.in_ok-heap.ensures

pub returns-in-Ok-clause-bytes : goal.returns-in-Ok-clause-bytes
returns-in-Ok-clause-bytes c = λ b. ap (λ bs. bs b) c.settle.ensures.bytes ∙ c.collect.ensures.bytes b ∙ ap (λ (h : HeapData). cond (model.is_held b h.names) (bytes_at h.blocks b) []) c.in_ok-heap.ensures
