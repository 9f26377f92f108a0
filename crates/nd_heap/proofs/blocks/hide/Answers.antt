use Rattle.std.proofs.Common.{◌∙◌, cond, ap, sym, add-one, arith, []}
use Rattle.std.proofs.lemmas.List.{take_all}
use Rattle.nd_heap.specs.Contents.{bases_of, blocks_of}
use Rattle.nd_heap.specs.Layers.{without}
use Rattle.nd_heap.specs.Live.{bytes_at, is_base_among}
use Rattle.nd_heap.proofs.Picking.{removed_more}
use Rattle.nd_heap.proofs.blocks.hide.Goals as goal

pub loop-i-preserved : goal.loop-i-preserved
loop-i-preserved c = record {
  bytes = rw add-one (λ b. removed_more c.args.bases.now.entries c.loop-i.i _ (sym c.in-Some.ensures.entry) b _ _ _ (c.hide_one.ensures.bytes b) (c.loop-i.invariant.bytes b));
  room = omega (arith, c.hide_one.ensures.room, c.loop-i.invariant.room);
}

pub returns-clause-bytes : goal.returns-clause-bytes
returns-clause-bytes c = λ b. c.loop-i.invariant.bytes b ∙ ap (λ es. cond (is_base_among (bases_of es) b) [] (bytes_at (without (bases_of c.args.gone.now.entries) (blocks_of c.args.blocks.now.entries)) b))
    (take_all c.loop-i.i c.args.bases.now.entries (omega (arith, c.loop-i-test.false, c.len-i-end.ensures.len)))
