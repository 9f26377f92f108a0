use Rattle.std.proofs.Common.{sym, subst, arith}
use Rattle.nd_heap.proofs.Entries.{all_more, all_of}
use Rattle.nd_heap.specs.Live.{bytes_at}
use Rattle.nd_heap.specs.Values.{value_of}
use Rattle.nd_model.specs.Cells.Sound.{IsViewOf}
use Rattle.nd_session.specs.Session.Intact.{LiesThere}
use Rattle.nd_session.proofs.session.Putting.{IsViewIn, all_views, has_value}
use Rattle.nd_session.proofs.session.change.patching.all_lie.Goals as goal

pub loop-i-preserved : goal.loop-i-preserved
loop-i-preserved c =
    let P = LiesThere c.args.label c.args.next (bytes_at c.args.heap.now.blocks) in
    let es = c.args.heap.now.names in
    let has = has_value es c.loop-i.i (value_of c.in-Some.value.now) c.in-Some.ensures in
    all_more (IsViewIn P) es c.loop-i.i has.entry has.there (subst (IsViewOf P) (sym has.is) (c.lies.ensures c.if-not-lies.false)) c.loop-i.invariant

pub returns : goal.returns
returns c =
    let P = LiesThere c.args.label c.args.next (bytes_at c.args.heap.now.blocks) in
    let es = c.args.heap.now.names in
    λ _. all_views P es (all_of (IsViewIn P) es c.loop-i.i (omega (arith, c.loop-i-test.false, c.count-i-end.ensures)) c.loop-i.invariant)
