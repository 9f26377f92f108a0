use Rattle.std.proofs.Common.{◌∙◌, sym, subst, arith}
use Rattle.nd_heap.specs.Contents.{bases_of}
use Rattle.nd_heap.specs.Loose.{AreLoose}
use Rattle.nd_heap.proofs.Loosening.{same_heap}
use Rattle.nd_heap.proofs.Picking.{cloned_bases}
use Rattle.nd_heap.proofs.heap.Heap.try_clone.Goals as goal

pub invariant_of-result : goal.invariant_of-result
invariant_of-result c = (
  subst AreLoose (sym (same_heap c.self.inside.names c.in-Ok.names c.self.inside.blocks.blocks c.in_ok-blocks.blocks.blocks (bases_of c.self.inside.loose.entries) (bases_of c.in_ok-loose.loose.entries)
      c.in-Ok.ensures c.in_ok-blocks.ensures.blocks (cloned_bases _ _ c.in_ok-loose.ensures.cases))) c.self.invariant.0,
  omega (arith, c.in_ok-blocks.ensures.room, c.len.ensures.len),
)

pub returns-in-Ok : goal.returns-in-Ok
returns-in-Ok c = same_heap c.self.inside.names c.in-Ok.names c.self.inside.blocks.blocks c.in_ok-blocks.blocks.blocks (bases_of c.self.inside.loose.entries) (bases_of c.in_ok-loose.loose.entries)
    c.in-Ok.ensures c.in_ok-blocks.ensures.blocks (cloned_bases _ _ c.in_ok-loose.ensures.cases) ∙ c.self.view_is
