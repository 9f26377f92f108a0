use Rattle.std.proofs.Common.{◌∙◌, [], cond, ap, arith}
use Rattle.nd_model.specs.Cells.Session as model
use Rattle.nd_heap.specs.Contents.{bases_of}
use Rattle.nd_heap.specs.Live.{bytes_at}
use Rattle.nd_heap.specs.Loose.{HeapData}
use Rattle.nd_heap.proofs.Loosening.{collected_bytes, full_loose, kept_bytes, none_loose}
use Rattle.nd_heap.proofs.heap.Heap.collect.Goals as goal

pub returns-then-are_held-clause-bytes : goal.returns-then-are_held-clause-bytes
returns-then-are_held-clause-bytes c = λ b.
    kept_bytes c.self.inside.names c.self.inside.blocks.blocks (bases_of c.self.inside.loose.entries) (c.are_held.ensures c.if-are_held.true) c.self.invariant.0 b
    ∙ ap (λ (h : HeapData). cond (model.is_held b h.names) (bytes_at h.blocks b) []) c.self.view_is

pub invariant_of-self : goal.invariant_of-self
invariant_of-self c = let names = c.self.inside.names in let blocks = c.self.inside.blocks.blocks in (
  none_loose names blocks (bases_of c.clear.new.self.entries) (bytes_at blocks) (kept_bytes names blocks (bases_of c.self.inside.loose.entries) (c.are_held.ensures c.if-are_held.true) c.self.invariant.0),
  omega (arith, c.clear.ensures.len, c.self.invariant.1),
)

pub remove-requires : goal.remove-requires
remove-requires c = omega (arith, c.self.invariant.1, c.retain_full.ensures.less, c.retain_unheld.ensures.less)

pub returns-clause-bytes : goal.returns-clause-bytes
returns-clause-bytes c = λ b.
    let names = c.self.inside.names in let blocks = c.self.inside.blocks.blocks in let full = bases_of c.retain_full.new.bases.entries in
    collected_bytes names blocks c.remove.new.self.blocks full (bases_of c.retain_unheld.new.bases.entries) c.retain_unheld.ensures.left c.remove.ensures.bytes
    (full_loose names blocks (bases_of c.self.inside.loose.entries) full c.retain_full.ensures.left c.self.invariant.0) b
    ∙ ap (λ (h : HeapData). cond (model.is_held b h.names) (bytes_at h.blocks b) []) c.self.view_is

pub invariant_of-self-2 : goal.invariant_of-self-2
invariant_of-self-2 c = let names = c.self.inside.names in let blocks = c.self.inside.blocks.blocks in let full = bases_of c.retain_full.new.bases.entries in (
  none_loose names c.remove.new.self.blocks (bases_of c.clear-2.new.self.entries) (bytes_at blocks)
      (collected_bytes names blocks c.remove.new.self.blocks full (bases_of c.retain_unheld.new.bases.entries) c.retain_unheld.ensures.left c.remove.ensures.bytes
      (full_loose names blocks (bases_of c.self.inside.loose.entries) full c.retain_full.ensures.left c.self.invariant.0)),
  omega (arith, c.clear-2.ensures.len),
)
