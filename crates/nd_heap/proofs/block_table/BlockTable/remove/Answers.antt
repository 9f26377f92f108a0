use Rattle.std.proofs.Common.{◌≡◌, ◌∙◌, [], cond, sym, ap}
use Rattle.nd_heap.specs.Contents.{bases_of, blocks_of}
use Rattle.nd_heap.specs.Layers.{TableData, without}
use Rattle.nd_heap.specs.Live.{bytes_at, is_base_among}
use Rattle.nd_heap.specs.Sharing.{held_in}
use Rattle.nd_heap.proofs.Stacking.{removed_stacked}
use Rattle.nd_heap.proofs.block_table.BlockTable.remove.Goals as goal

pub returns-clause-bytes : goal.returns-clause-bytes
returns-clause-bytes c = λ b.
    let gone = bases_of c.self.inside.gone.entries in
    let more = bases_of c.hide.new.gone.entries in
    let old = blocks_of (held_in c.self.inside.shared).entries in
    let out = is_base_among (bases_of c.args.bases.now.entries) b in
    let here : bytes_at (without more old) b ≡ cond out [] (bytes_at (without gone old) b)
    = ap (λ m. bytes_at (without more (blocks_of m.entries)) b) (sym c.as_ref.ensures) ∙ c.hide.ensures.bytes b ∙ ap (λ m. cond out [] (bytes_at (without gone (blocks_of m.entries)) b)) c.as_ref.ensures in
    ap (λ f. f b) c.drop_hidden.ensures.bytes
    ∙ removed_stacked (blocks_of c.self.inside.newer.entries) (blocks_of c.remove_blocks.new.blocks.entries) (without gone old) (without more old) out b
    (c.remove_blocks.ensures.bases b) (c.remove_blocks.ensures.bytes b) here
    ∙ ap (λ (t : TableData). cond out [] (bytes_at t.blocks b)) c.self.view_is
