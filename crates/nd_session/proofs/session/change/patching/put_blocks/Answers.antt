use Rattle.std.proofs.Common.{◌≡◌, ◌∙◌, ◌-◌, suc, drop, unwrap_or, sym, ap, arith}
use Rattle.nd_heap.specs.Live.{bytes_at}
use Rattle.nd_session.specs.Session.Now.{block_now}
use Rattle.nd_session.proofs.session.Putting.{block_put}
use Rattle.nd_session.proofs.session.change.patching.put_blocks.Goals as goal

pub loop-i-preserved : goal.loop-i-preserved
loop-i-preserved c =
    let es = c.args.blocks.now.entries in
    let next : suc (c.loop-i.i - 1) ≡ c.loop-i.i = omega (arith, c.loop-i-test.true) in (
      c.put_block.ensures.names ∙ c.loop-i.invariant.0,
      block_put es (c.loop-i.i - 1) (c.in-Some.base.now, c.in-Some.block.now) (bytes_at c.args.heap.now.blocks) (bytes_at c.loop-i.heap.blocks) (bytes_at c.put_block.new.heap.blocks)
          (sym c.in-Some.ensures.entry)
          (λ b. c.loop-i.invariant.1 b ∙ ap (λ j. unwrap_or (block_now (drop j es) b) (bytes_at c.args.heap.now.blocks b)) (sym next))
          c.in_ok-put_block.ensures.blocks,
    )
