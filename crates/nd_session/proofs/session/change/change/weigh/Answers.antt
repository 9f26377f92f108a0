use Rattle.std.proofs.Common.{add-one, length, ap, sym, arith}
use Rattle.nd_heap.specs.Contents.{bytes_in}
use Rattle.nd_session.proofs.session.Weighing.{sum_more}
use Rattle.nd_session.proofs.session.change.change.weigh.Goals as goal

pub loop-i-preserved : goal.loop-i-preserved
loop-i-preserved c = rw add-one (
    let more = sum_more (λ e. length (bytes_in e.1)) c.args.blocks.now.entries c.loop-i.i (c.in-Some.field-0-0.now, c.in-Some.block.now) (sym c.in-Some.ensures.entry) in
    omega (arith, more, c.loop-i.invariant, c.saturating_add-bytes.ensures, ap length c.shared_bytes.ensures))
