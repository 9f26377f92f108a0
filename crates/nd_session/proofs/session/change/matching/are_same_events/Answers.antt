use Rattle.std.proofs.Common.{◌∙◌, map, refl, sym, ap, arith}
use Rattle.std.proofs.lemmas.List.{take_all}
use Rattle.nd_trace.specs.Events.{event_of}
use Rattle.nd_session.proofs.session.Matching.{same_more}
use Rattle.nd_session.proofs.session.change.matching.are_same_events.Goals as goal

pub loop-i-init : goal.loop-i-init
loop-i-init c = refl

pub loop-i-preserved : goal.loop-i-preserved
loop-i-preserved c =
    same_more event_of c.args.one.now c.args.other.now c.loop-i.i c.index-one-i.result c.index-other-i.result c.loop-i-test.true (omega (arith, c.loop-i-test.true, c.if-one-other.false))
    c.index-one-i.is c.index-other-i.is (c.is_same.ensures c.if-not-is_same.false) c.loop-i.invariant

pub returns : goal.returns
returns c = λ _.
    sym (ap (map event_of) (take_all c.loop-i.i c.args.one.now c.loop-i-test.false)) ∙ c.loop-i.invariant
    ∙ ap (map event_of) (take_all c.loop-i.i c.args.other.now (omega (arith, c.loop-i-test.false, c.if-one-other.false)))
