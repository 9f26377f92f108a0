use Rattle.std.proofs.Common.{◌∙◌, ◌++◌, ap, ap₂, ⊎_elim}
use Rattle.nd_heap.specs.Contents.{bases_of, blocks_of}
use Rattle.nd_heap.specs.Layers.{TableData, without}
use Rattle.nd_heap.proofs.Bases.{cloned_blocks}
use Rattle.nd_heap.proofs.Picking.{cloned_bases}
use Rattle.nd_heap.proofs.block_table.BlockTable.try_clone.Goals as goal

pub returns-in-Ok-clause-blocks : goal.returns-in-Ok-clause-blocks
returns-in-Ok-clause-blocks c =
    let gone = ap bases_of c.reserve.ensures.entries ∙ cloned_bases _ _ c.in_ok-gone.ensures.cases in
    ap₂ (λ xs ys. xs ++ ys) (cloned_blocks _ _ c.in_ok-newer.ensures.cases)
    (ap₂ without gone (⊎_elim (λ e. ap (λ m. blocks_of m.entries) e) (cloned_blocks _ _) c.in-Ok.ensures))
    ∙ ap (λ (t : TableData). t.blocks) c.self.view_is
