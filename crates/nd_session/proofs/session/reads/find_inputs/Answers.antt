use Rattle.std.proofs.Common.{add-one}
use Rattle.nd_session.specs.Session.Reading.{by_text, source_at}
use Rattle.nd_session.specs.Inputs.Values.{inputs_of}
use Rattle.nd_session.proofs.session.Reading.{text_noted}
use Rattle.nd_session.proofs.session.reads.find_inputs.Goals as goal

pub loop-name-preserved : goal.loop-name-preserved
loop-name-preserved c = λ n. rw add-one (text_noted (inputs_of c.args.inputs.now.entries) (by_text source_at c.loop-name.reads.entries) (by_text source_at c.note_input.new.reads.entries)
    c.args.names.now c.loop-name.name-index c.name-item.result c.as_str.result.now n c.loop-name-test.true c.name-item.is c.as_str.ensures.value (c.in_ok-note_input.ensures n) (c.loop-name.invariant n))
