use Rattle.std.proofs.Common.{add-one, length, ap, sym, arith}
use Rattle.nd_session.specs.Session.Now.{kept_in}
use Rattle.nd_session.proofs.session.Weighing.{sum_more}
use Rattle.nd_session.proofs.session.change.change.weigh_parts.Goals as goal

pub loop-i-preserved : goal.loop-i-preserved
loop-i-preserved c = rw add-one (
    let more = sum_more (λ e. length (kept_in e.1).bytes) c.args.parts.now.entries c.loop-i.i (c.in-Some.field-0-0.now, c.in-Some.part.now) (sym c.in-Some.ensures.entry) in
    omega (arith, more, c.loop-i.invariant, c.saturating_add-bytes.ensures, c.len.ensures, ap (λ k. length k.bytes) c.as_ref.ensures))
