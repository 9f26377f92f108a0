use Rattle.std.proofs.Common.{sym, arith}
use Rattle.nd_heap.proofs.Entries.{all_more, all_of}
use Rattle.nd_heap.specs.Live.{bytes_at}
use Rattle.nd_model.specs.Cells.Sound.{IsViewOf}
use Rattle.nd_session.specs.Session.Intact.{LiesThere}
use Rattle.nd_session.proofs.session.Putting.{IsBoundTo, all_bound}
use Rattle.nd_session.proofs.session.change.patching.changed_lie.Goals as goal

pub loop-i-preserved : goal.loop-i-preserved
loop-i-preserved c =
    let P = IsViewOf (LiesThere c.args.label c.args.next (bytes_at c.args.heap.now.blocks)) in
    all_more (IsBoundTo P) c.args.names.now.entries c.loop-i.i (c.in-Some.field-0-0.now, c.in-Some.value.now) (sym c.in-Some.ensures.entry) (c.lies_now.ensures c.if-not-lies_now.false) c.loop-i.invariant

pub returns : goal.returns
returns c =
    let P = IsViewOf (LiesThere c.args.label c.args.next (bytes_at c.args.heap.now.blocks)) in
    λ _. all_bound P c.args.names.now.entries (all_of (IsBoundTo P) c.args.names.now.entries c.loop-i.i (omega (arith, c.loop-i-test.false, c.len-i-end.ensures.len)) c.loop-i.invariant)
