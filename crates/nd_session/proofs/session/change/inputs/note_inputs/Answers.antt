use Rattle.std.proofs.Common.{sym, arith}
use Rattle.nd_heap.proofs.Entries.{all_more, all_of}
use Rattle.nd_session.specs.Inputs.Values.{inputs_of}
use Rattle.nd_session.specs.Session.Now.{input_now}
use Rattle.nd_session.proofs.session.Gathering.{before_weaker}
use Rattle.nd_session.proofs.session.Giving.{IsSameOut, out_all, out_weaker}
use Rattle.nd_session.proofs.session.Standing.{noted_on, noted_same}
use Rattle.nd_session.proofs.session.change.inputs.note_inputs.Goals as goal

pub loop-i-init : goal.loop-i-init
loop-i-init c = (noted_same (inputs_of c.args.new.now.entries) (input_now c.args.changed.now.entries), tt)

pub loop-i-preserved : goal.loop-i-preserved
loop-i-preserved c =
    let i = inputs_of c.args.old.now.entries in
    let j = inputs_of c.args.new.now.entries in
    let was = input_now c.loop-i.changed.entries in
    let now = input_now c.note_input.new.changed.entries in
    let es = c.args.names.now.entries in
    let step = c.in_ok-note_input.ensures.noted in (
      noted_on j (input_now c.args.changed.now.entries) was now c.loop-i.invariant.0 step,
      all_more (IsSameOut i j now) es c.loop-i.i (c.in-Some.name.now, c.in-Some.field-0-1.now) (sym c.in-Some.ensures.entry) c.in_ok-note_input.ensures.same
          (before_weaker (IsSameOut i j was) (IsSameOut i j now) (out_weaker i j was now step) es c.loop-i.i c.loop-i.invariant.1),
    )

pub returns-clause-same : goal.returns-clause-same
returns-clause-same c =
    let i = inputs_of c.args.old.now.entries in
    let j = inputs_of c.args.new.now.entries in
    let now = input_now c.loop-i.changed.entries in
    let es = c.args.names.now.entries in
    out_all i j now es (all_of (IsSameOut i j now) es c.loop-i.i (omega (arith, c.loop-i-test.false, c.len-i-end.ensures.len)) c.loop-i.invariant.1)
