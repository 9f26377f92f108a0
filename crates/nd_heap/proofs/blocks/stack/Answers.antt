use Rattle.std.proofs.Common.{◌≡◌, ◌∙◌, ◌-◌, ◌+◌, ◌++◌, cond, [], sym, ap, arith, drop}
use Rattle.nd_heap.specs.Contents.{bases_of, blocks_of}
use Rattle.nd_heap.specs.Layers.{without}
use Rattle.nd_heap.specs.Live.{bytes_at, is_base_among}
use Rattle.nd_heap.specs.Values.{base_of}
use Rattle.nd_model.specs.Cells.Running as running
use Rattle.nd_heap.proofs.Bases.{cloned_blocks}
use Rattle.nd_heap.proofs.Hiding.{bytes-without}
use Rattle.nd_heap.proofs.Stacking.{over_more, drop_past}
use Rattle.nd_heap.proofs.blocks.stack.Goals as goal

pub loop-i-init : goal.loop-i-init
loop-i-init c = λ b. c.remove_blocks.ensures.bytes b ∙ ap (λ bs. cond (is_base_among (bases_of c.args.gone.now.entries) b) [] (bytes_at bs b)) (cloned_blocks _ _ c.in_ok-all.ensures.cases)
    ∙ sym (bytes-without (bases_of c.args.gone.now.entries) (blocks_of c.args.older.now.entries) b)
    ∙ sym (ap (λ es. bytes_at (blocks_of es ++ without (bases_of c.args.gone.now.entries) (blocks_of c.args.older.now.entries)) b) (drop_past c.args.newer.now.entries _ (omega (arith, c.len-i.ensures.len))))

pub loop-i-preserved : goal.loop-i-preserved
loop-i-preserved c =
    let next : c.loop-i.i ≡ c.loop-i.i - 1 + 1 = omega (arith, c.loop-i-test.true) in
    over_more c.args.newer.now.entries (c.loop-i.i - 1) _ (bytes_at (blocks_of c.loop-i.all.entries)) (bytes_at (blocks_of c.put_block.new.blocks.entries)) (without (bases_of c.args.gone.now.entries) (blocks_of c.args.older.now.entries)) (sym c.in-Some.ensures.entry)
    (c.in_ok-put_block.ensures ∙ ap (λ bytes. running.with_base (base_of c.in-Some.base.now) bytes (bytes_at (blocks_of c.loop-i.all.entries))) c.in_ok-clone.ensures.cases)
    (λ b. c.loop-i.invariant b ∙ ap (λ k. bytes_at (blocks_of (drop k c.args.newer.now.entries) ++ without (bases_of c.args.gone.now.entries) (blocks_of c.args.older.now.entries)) b) next)
