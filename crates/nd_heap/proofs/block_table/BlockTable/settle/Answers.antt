use Rattle.std.proofs.Common.{◌∙◌, ◌++◌, ap, ap₂}
use mathlib.Core.Path.{fun_ext}
use Rattle.nd_heap.specs.Contents.{bases_of, blocks_of}
use Rattle.nd_heap.specs.Layers.{TableData, without}
use Rattle.nd_heap.specs.Live.{bytes_at}
use Rattle.nd_heap.proofs.Hiding.{without-none}
use Rattle.nd_heap.proofs.block_table.BlockTable.settle.Goals as goal

pub returns-clause-bytes : goal.returns-clause-bytes
returns-clause-bytes c =
    let flat = blocks_of c.in_ok-new.field-0.value.entries in
    ap₂ (λ es gone. bytes_at (blocks_of es ++ without (bases_of gone) flat)) c.clear.ensures.empty c.clear-2.ensures.empty
    ∙ ap bytes_at (without-none flat) ∙ ap (λ m. bytes_at (blocks_of m.entries)) c.in_ok-new.ensures.ok ∙ fun_ext c.in_ok-flat.ensures
    ∙ ap (λ m. bytes_at (blocks_of c.self.inside.newer.entries ++ without (bases_of c.self.inside.gone.entries) (blocks_of m.entries))) c.as_ref.ensures
    ∙ ap (λ (t : TableData). bytes_at t.blocks) c.self.view_is
