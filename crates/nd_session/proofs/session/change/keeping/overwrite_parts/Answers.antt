use Rattle.std.proofs.Common.{sym, add-one, arith}
use Rattle.nd_session.specs.Session.Now.{part_now}
use Rattle.nd_session.proofs.session.Dropping.{laid_all, laid_more, laid_none}
use Rattle.nd_session.proofs.session.change.keeping.overwrite_parts.Goals as goal

pub loop-i-init : goal.loop-i-init
loop-i-init c = laid_none c.args.written.now.entries (part_now c.args.parts.now.entries)

pub loop-i-preserved : goal.loop-i-preserved
loop-i-preserved c = rw add-one (laid_more c.args.written.now.entries c.loop-i.i (c.in-Some.base.now, c.in-Some.found.now) (part_now c.args.parts.now.entries) (part_now c.loop-i.parts.entries)
    (part_now c.overwrite_part.new.parts.entries) (sym c.in-Some.ensures.entry) c.in-Some.ensures.value c.loop-i.invariant c.in_ok-overwrite_part.ensures.here c.in_ok-overwrite_part.ensures.others)

pub returns : goal.returns
returns c = laid_all c.args.written.now.entries c.loop-i.i (part_now c.args.parts.now.entries) (part_now c.loop-i.parts.entries) (omega (arith, c.loop-i-test.false, c.len-i-end.ensures.len)) c.loop-i.invariant
