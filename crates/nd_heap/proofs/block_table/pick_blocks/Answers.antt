use Rattle.std.proofs.Common.{◌∙◌, cond, ap, sym, add-one, arith, take, []}
use Rattle.std.proofs.lemmas.List.{take_all}
use Rattle.nd_heap.specs.Contents.{bases_of, blocks_of}
use Rattle.nd_heap.specs.Live.{bytes_at, is_base_among}
use Rattle.nd_heap.specs.Values.{base_of}
use Rattle.nd_heap.proofs.Picking.{picked_more, nothing_picked}
use Rattle.nd_heap.proofs.block_table.pick_blocks.Goals as goal

pub pick_block-requires : goal.pick_block-requires
pick_block-requires c = nothing_picked (is_base_among (bases_of (take c.loop-i.i c.args.bases.now.entries)) (base_of c.in-Some.base.now)) _ _ (c.loop-i.invariant (base_of c.in-Some.base.now))

pub loop-i-preserved : goal.loop-i-preserved
loop-i-preserved c = rw add-one (λ b. picked_more c.args.bases.now.entries c.loop-i.i _ (sym c.in-Some.ensures.entry) b
    (bytes_at (blocks_of c.pick_block.new.picked.entries) b) (bytes_at (blocks_of c.loop-i.picked.entries) b) (bytes_at c.args.blocks.now.blocks)
    (ap (λ f. f b) c.in_ok-pick_block.ensures) (c.loop-i.invariant b))

pub returns : goal.returns
returns c = λ b. c.loop-i.invariant b ∙ ap (λ es. cond (is_base_among (bases_of es) b) (bytes_at c.args.blocks.now.blocks b) [])
    (take_all c.loop-i.i c.args.bases.now.entries (omega (arith, c.loop-i-test.false, c.len-i-end.ensures.len)))
