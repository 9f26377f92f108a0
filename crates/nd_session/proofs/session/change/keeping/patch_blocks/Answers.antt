use Rattle.std.proofs.Common.{◌∙◌, sym, add-one, arith}
use Rattle.nd_session.specs.Session.Now.{block_now}
use Rattle.nd_session.proofs.session.Dropping.{written_all, written_more}
use Rattle.nd_session.proofs.session.change.keeping.patch_blocks.Goals as goal

pub loop-i-preserved : goal.loop-i-preserved
loop-i-preserved c = rw add-one (written_more c.args.written.now.entries c.loop-i.i (c.in-Some.base.now, c.in-Some.found.now) (block_now c.args.blocks.now.entries) (block_now c.loop-i.blocks.entries)
    (block_now c.patch_block.new.blocks.entries) (sym c.in-Some.ensures.entry) c.in-Some.ensures.value c.loop-i.invariant c.in_ok-patch_block.ensures)

pub returns : goal.returns
returns c = λ b. c.loop-i.invariant b ∙ written_all c.args.written.now.entries c.loop-i.i (block_now c.args.blocks.now.entries) b (omega (arith, c.loop-i-test.false, c.len-i-end.ensures.len))
